-- Permission and taking keep a property of all events and nets of a term.
use Rattle.std.specs.Prelude.{ℕ, List, [], ◌∷◌, ◌≡◌, Some}
use Rattle.chart_term.specs.NormalForms.{NetPermits}
use Rattle.chart_term.specs.Properties.{Each, EachTurn, MayHave, EveryRow, EveryOf, Every}
use Rattle.chart_term.specs.Terms.{TermEvent, Block, Tree, Trees, none, more, Row, ends, gap, turn, items, trees, Part, Gap, Turn, parts, row_of}
use Rattle.term_laws.specs.Permission.{permit}
use Rattle.term_laws.specs.Taking.{IsAfter}
use Rattle.term_laws.proofs.Keeping.{Kind, permit_keeps, after_keeps}

module _ (E : TermEvent → Type 0) (N : ℕ → Type 0) where
  pub every_in : (xs : List Tree) → Each (Every E N) xs → EveryOf E N (trees xs)
  every_in [] h = tt
  every_in (x ∷ xs) h = (h.0, every_in xs h.1)

  pub every_out : (xs : Trees) → EveryOf E N xs → Each (Every E N) (items xs)
  every_out none h = tt
  every_out (more x xs) h = (h.0, every_out xs h.1)

  pub every_row_in : (ps : List Part) → EachTurn (Every E N) ps → EveryRow E N (row_of ps)
  every_row_in [] h = tt
  every_row_in (Gap c ∷ ps) h = every_row_in ps h
  every_row_in (Turn x ∷ ps) h = (h.0, every_row_in ps h.1)

  pub every_row_out : (r : Row) → EveryRow E N r → EachTurn (Every E N) (parts r)
  every_row_out ends h = tt
  every_row_out (gap c r) h = every_row_out r h
  every_row_out (turn x r) h = (h.0, every_row_out r h.1)

  module _ (k : NetPermits) where
    pub every_kind : Kind k (Every E N) (Every E N) (λ x lo hi ps. Every E N x) (λ x z. Unit {0})
    every_kind = record {
      nil = tt;
      join_in = λ m xs h. every_in xs h;
      join_out = λ m xs h. every_out xs h;
      choice_in = λ x y xs a b h. (a, (b, every_in xs h));
      choice_out = λ xs h. every_out xs h;
      bound_out = λ x q h. h;
      bound_in = λ x z q h d i. i;
      bound_fewer = λ x q h. h;
      turns_in = λ x lo hi ps h d g a. (h, every_row_in ps d);
      turns_out = λ x lo hi r h. (h.0, every_row_out r h.1);
      release = λ x h. h;
      turn_permit = λ b x h i. i;
      turn_after = λ x y e h a i. i;
      new_turn = λ x y z c lo hi ps e h p a f. f h;
      sub = λ x lo hi ps qs s h. h;
      cuts = λ x lo hi ps h. h;
      low = λ x lo hi ps b h. h;
      wide = λ b x lo hi r qs e h. h;
      after_row = λ x lo hi r qs b e a hm h. h;
      trail_in = λ n f g t u c d h s a l. h;
      permitted = λ b x z e. tt;
      taken = λ x y z b e a p. tt;
    }

    pub permit_every : (b : Block) (x : Tree) → Every E N x → MayHave (Every E N) (permit k b x)
    permit_every = permit_keeps k (Every E N) (Every E N) (λ x lo hi ps. Every E N x) (λ x z. Unit {0}) every_kind

    -- where the terms of such nets have it too
    pub after_every : ((n m : ℕ) (d : List ℕ) (x : Tree) → N n → k.kept n m d ≡ Some x → Every E N x) → {x y : Tree} {e : TermEvent} → IsAfter k x e y → Every E N x → Every E N y
    after_every nets = after_keeps k (Every E N) (Every E N) (λ x lo hi ps. Every E N x) (λ x z. Unit {0}) every_kind (λ n m f t c d x h e. nets n m d x h e)
