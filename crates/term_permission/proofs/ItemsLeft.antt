-- What permission leaves of the items of a list, from the last of them on.
use Rattle.std.specs.Option.{option_map}
use Rattle.std.specs.Prelude.{ℕ, zero, suc, ◌+◌, ◌≤◌, List, [], ◌∷◌, ◌++◌, ◌≡◌, Option, Some, None, refl, length, take, drop, slice_get}
use Rattle.std.proofs.Common.{ap, sym, ◌∙◌, subst, add-one, append-nil}
use Rattle.chart_term.specs.NormalForms.{NetPermits, and_then, begun, choice_of, flat, open_part, tie_of}
use Rattle.chart_term.specs.Properties.{EachTurn}
use Rattle.chart_term.specs.Tables.{Tables}
use Rattle.chart_term.specs.Terms.{Block, Tree, Choice, Tied, trees, Part, Gap, Turn}
use Rattle.chart_term.proofs.Lists.{items-trees}
use Rattle.chart_term.proofs.Turns.{begun-append}
use Rattle.msc_base.specs.Patterns.{Mode}
use Rattle.list_facts.proofs.Reading.{drop_suc}
use Rattle.term_permission.specs.Lefts.{opened_left}
use Rattle.term_permission.specs.Ready.{IsReady}
use Rattle.term_permission.proofs.EndingFacts.{take_all}
use Rattle.term_permission.proofs.Joins.{left-front}
use Rattle.term_laws.specs.Normality.{IsPartOf}
use Rattle.term_laws.specs.Permission.{permit, permit_all, permit_some, permits_of}
use Rattle.term_laws.proofs.Identity.{flat_same, choice_same, bound_same}

pub each-at : (T : Tree → Type 0) (ps : List Part) (i : ℕ) (x : Tree) → slice_get ps i ≡ Some (Turn x) → EachTurn T ps → T x
each-at T [] i x g h = cc
each-at T (Gap c ∷ ps) zero x g h = cc
each-at T (Gap c ∷ ps) (suc i) x g h = each-at T ps i x g h
each-at T (Turn y ∷ ps) zero x g h = let e : y ≡ x = cc in subst T e h.0
each-at T (Turn y ∷ ps) (suc i) x g h = each-at T ps i x g h.1

next_drop : (ps : List Part) (i j : ℕ) (t : Part) → slice_get ps i ≡ Some t → i + 1 ≡ j → drop i ps ≡ t ∷ drop j ps
next_drop ps i j t g e = drop_suc ps i t g ∙ ap (λ n. t ∷ drop n ps) (sym (add-one i) ∙ e)

pub items-gap : (ps : List Part) (i j : ℕ) (c : List ℕ) → slice_get ps i ≡ Some (Gap c) → i + 1 ≡ j → begun (drop i ps) ≡ begun (drop j ps)
items-gap ps i j c g e = ap begun (next_drop ps i j (Gap c) g e)

module _ (k : NetPermits) (b : Block) (m : Mode) where
  pub items-next : (ps front old new : List Part) (i j : ℕ) (x y : Tree) → slice_get ps i ≡ Some (Turn x) → i + 1 ≡ j → permit k b x ≡ Some y → opened_left k b m (begun (drop j ps)) ≡ Some (begun old) → begun front ≡ open_part m y → new ≡ front ++ old → opened_left k b m (begun (drop i ps)) ≡ Some (begun new)
  items-next ps front old new i j x y g e p h f n =
      ap (λ l. opened_left k b m (begun l)) (next_drop ps i j (Turn x) g e)
      ∙ left-front k b m x y (drop j ps) old new p h (ap begun n ∙ (begun-append front old ∙ ap (λ l. l ++ begun old) f))

  none_all : (o : Option Tree) (p : Option (List Tree)) → p ≡ None → and_then o p ≡ None
  none_all None p h = refl
  none_all (Some x) p h = ap (and_then (Some x)) h

  all_fails : (ps : List Part) (i : ℕ) (x : Tree) → slice_get ps i ≡ Some (Turn x) → permit k b x ≡ None → permit_all k b (trees (begun ps)) ≡ None
  all_fails [] i x g h = cc
  all_fails (Gap c ∷ ps) zero x g h = cc
  all_fails (Gap c ∷ ps) (suc i) x g h = all_fails ps i x g h
  all_fails (Turn y ∷ ps) zero x g h = let e : y ≡ x = cc in ap (λ o. and_then o (permit_all k b (trees (begun ps)))) (ap (permit k b) e ∙ h)
  all_fails (Turn y ∷ ps) (suc i) x g h = none_all (permit k b y) (permit_all k b (trees (begun ps))) (all_fails ps i x g h)

  pub items-fail : (ps : List Part) (i : ℕ) (x : Tree) → slice_get ps i ≡ Some (Turn x) → permit k b x ≡ None → opened_left k b m (begun ps) ≡ None
  items-fail ps i x g h = ap (option_map (flat m)) (all_fails ps i x g h)

pub items-same : (m : Mode) (ps front old new : List Part) (i j : ℕ) (x y : Tree) → slice_get ps i ≡ Some (Turn x) → i + 1 ≡ j → IsPartOf m x → y ≡ x → begun old ≡ begun (drop j ps) → begun front ≡ open_part m y → new ≡ front ++ old → begun new ≡ begun (drop i ps)
items-same m ps front old new i j x y g e o s h f n =
    let own : open_part m x ≡ x ∷ [] = sym (append-nil (open_part m x)) ∙ flat_same m (x ∷ []) (o, tt) in
    ap begun n ∙ (begun-append front old ∙ ((λ t. (f ∙ (ap (open_part m) s ∙ own)) t ++ h t) ∙ sym (ap begun (next_drop ps i j (Turn x) g e))))

-- a choice whose parts all stay
pub choice-stays : (w : Tables) (b : Block) (xs ks : List Tree) (n : ℕ) → IsReady w (Choice (trees xs)) → length xs ≤ n → permit_some (permits_of w) b (trees (take n xs)) ≡ ks → ks ≡ take n xs → Some (Choice (trees xs)) ≡ choice_of (permit_some (permits_of w) b (trees xs))
choice-stays w b xs ks n r l h s =
    let all : take n xs ≡ xs = take_all xs n l in
    let kept : permit_some (permits_of w) b (trees xs) ≡ xs = ap (λ l. permit_some (permits_of w) b (trees l)) (sym all) ∙ (h ∙ (s ∙ all)) in
    sym (ap choice_of (kept ∙ sym (items-trees xs)) ∙ choice_same (trees xs) r.normal.1 r.normal.2 r.normal.3)

pub choice-kept : (w : Tables) (b : Block) (xs ks : List Tree) (n : ℕ) → length xs ≤ n → permit_some (permits_of w) b (trees (take n xs)) ≡ ks → choice_of ks ≡ choice_of (permit_some (permits_of w) b (trees xs))
choice-kept w b xs ks n l h = ap choice_of (sym h ∙ ap (λ l. permit_some (permits_of w) b (trees l)) (take_all xs n l))

-- a tie below which nothing changes
pub tied-stays : (w : Tables) (b : Block) (x y : Tree) (q : List (ℕ × ℕ)) → x ≡ Tied y q → IsReady w x → permit (permits_of w) b y ≡ Some y → Some x ≡ permit (permits_of w) b x
tied-stays w b x y q e r h =
    let n = subst (λ (u : Tree). IsReady w u) e r in
    ap Some (e ∙ sym (bound_same y q n.normal.1 n.normal.2 n.normal.3)) ∙ sym (ap (permit (permits_of w) b) e ∙ ap (option_map (λ z. tie_of z q)) h)
