-- Tables with one more net agree with the older ones.
use Rattle.std.specs.Prelude.{◌<◌, ◌==◌, true, false, ◌∷◌, ◌≡◌, refl}
use Rattle.chart_term.specs.Properties.{EveryOf, EveryRow, IsBelow}
use Rattle.chart_term.specs.Tables.{Tables, NetEntry, net_count}
use Rattle.chart_term.specs.Terms.{Block, Tree, Nil, Event, Join, Choice, Tied, Loop, Walk, Trees, none, more, Row, ends, gap, turn}
use Rattle.term_laws.specs.LaterTables.{LaterTablesAgree}
use Rattle.term_laws.specs.Permission.{permit, permits_of}
use Rattle.term_laws.specs.Soundness.{IsTidyOver, AreTidy, IsTidyRow, NetLacks, IsKnown}
use Rattle.term_laws.proofs.Agreeing.{same_permit}
use Rattle.term_laws.proofs.NormalTables.{up_normal}
use Rattle.term_laws.proofs.TidyTables.{not_same, good_tree, up, down}

-- a tidy term names only nets that are there
mutual
  pub tidy_below : (w : Tables) (x : Tree) → IsTidyOver w x → IsBelow (net_count w) x
  tidy_below w Nil h = tt
  tidy_below w (Event e) h = tt
  tidy_below w (Join m xs) h = tidy_below_all w xs h
  tidy_below w (Choice xs) h = tidy_below_all w xs h
  tidy_below w (Tied x q) h = tidy_below w x h.0
  tidy_below w (Loop x lo hi r) h = (tidy_below w x h.0, tidy_below_row w r h.1)
  tidy_below w (Walk n f t c) h = h

  tidy_below_all : (w : Tables) (xs : Trees) → AreTidy (NetLacks w) (IsKnown w) xs → EveryOf (λ e. Unit {0}) (λ m. m < net_count w) xs
  tidy_below_all w none h = tt
  tidy_below_all w (more x xs) h = (tidy_below w x h.0, tidy_below_all w xs h.1)

  tidy_below_row : (w : Tables) (r : Row) → IsTidyRow (NetLacks w) (IsKnown w) r → EveryRow (λ e. Unit {0}) (λ m. m < net_count w) r
  tidy_below_row w ends h = tt
  tidy_below_row w (gap c r) h = tidy_below_row w r h
  tidy_below_row w (turn x r) h = (tidy_below w x h.0, tidy_below_row w r h.1)

later_permit : (w : Tables) (e : NetEntry) (b : Block) (x : Tree) → IsBelow (net_count w) x → permit (permits_of w) b x ≡ permit (permits_of (e ∷ w)) b x
later_permit w e b x h =
    same_permit (permits_of w) (permits_of (e ∷ w)) (net_count w)
    (λ n l. let p : (n == net_count w) ≡ false = not_same n (net_count w) l in rw p refl)
    (λ n l. let p : (n == net_count w) ≡ false = not_same n (net_count w) l in rw p refl)
    (λ n l m c. let p : (n == net_count w) ≡ false = not_same n (net_count w) l in rw p refl)
    (λ n l. let p : (n == net_count w) ≡ false = not_same n (net_count w) l in rw p refl) x h b

pub later_tables_agree : LaterTablesAgree
later_tables_agree = record {
  tidy = λ w e x h g. good_tree true e w h x (tidy_below w x g) g;
  normal = λ w e x g n. up_normal e w x (tidy_below w x g) n;
  patterns = λ o w e x s h g. record { to = λ a. up o e w h x (tidy_below w x g) s a; from = λ a. down o e w h x (tidy_below w x g) s a };
  permits = λ w e b x g. later_permit w e b x (tidy_below w x g);
}
