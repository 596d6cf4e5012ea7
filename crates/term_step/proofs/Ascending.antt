-- What is left of a term where a child of it leaves something.
use Rattle.std.specs.Option.{option_map}
use Rattle.std.specs.Prelude.{ℕ, zero, suc, ◌+◌, ◌<◌, false, List, [], ◌∷◌, ◌++◌, ◌≡◌, Option, Some, None, refl, length, take, drop, slice_get}
use Rattle.std.proofs.Common.{ap, sym, ◌∙◌, add-one, append-nil, arith}
use Rattle.bit_sets.specs.Blocks.{BlockValue}
use Rattle.msc_base.specs.Patterns.{Mode, seq, par}
use Rattle.list_facts.proofs.Reading.{drop_suc}
use Rattle.chart_term.specs.NormalForms.{NetPermits, only, begun, flat, join_all, join_of, open_part, and_then, thin_gap}
use Rattle.chart_term.specs.PartLists.{AreTurns}
use Rattle.chart_term.specs.Properties.{Each, EachTurn}
use Rattle.chart_term.specs.Tables.{Tables}
use Rattle.chart_term.specs.TermPatterns.{instances_of, earlier, before_in}
use Rattle.chart_term.specs.Terms.{TermEvent, has, Tree, Join, trees, Part, Gap, Turn}
use Rattle.chart_term.specs.Views.{event_of}
use Rattle.chart_term.proofs.Lists.{items-trees}
use Rattle.chart_term.proofs.Turns.{begun-length}
use Rattle.term_step.specs.Children.{parts_left, put}
use Rattle.term_permission.specs.Lefts.{opened_left}
use Rattle.term_laws.specs.Normality.{AreApart, IsNotNil, IsPartOf, IsTurnFirst}
use Rattle.term_laws.specs.Permission.{permit, permit_all, permits_of}
use Rattle.term_permission.specs.Ready.{IsReady}
use Rattle.term_step.specs.Searches.{IsTaken, part_before, tail_of}
use Rattle.term_permission.specs.RowRests.{RowRest, no_rest, turn_before, gap_before}
use Rattle.term_laws.specs.Values.{block_of}
use Rattle.term_step.specs.declared.ascent.Taken.{Taken}
use Rattle.term_laws.proofs.Alike.{AgreeOn, permit-alike}
use Rattle.term_laws.proofs.Identity.{put_same}
use Rattle.term_permission.proofs.Joins.{begun-drop, begun-take, each-drop, each-listed, each-take, flat-append, flat-stays}
use Rattle.chart_term.specs.Spreads.{touch}

-- parts side by side
aside_left : (k : NetPermits) (e : TermEvent) (xs : List Tree) (i : ℕ) (y : Tree) → i < length xs → parts_left k par e xs i y ≡ Some (take i xs ++ y ∷ drop (suc i) xs)
aside_left k e [] i y l = absurd (omega arith)
aside_left k e (x ∷ xs) zero y l = refl
aside_left k e (x ∷ xs) (suc i) y l = ap (and_then (Some x)) (aside_left k e xs i y (omega arith))

-- a list whose part of a place is replaced, opened
replaced_flat : (m : Mode) (ps : List Part) (i : ℕ) (y : Tree) (ks : List Tree) → AreTurns ps → EachTurn (IsPartOf m) ps → flat m (ks ++ y ∷ drop (suc i) (begun ps)) ≡ flat m ks ++ (open_part m y ++ begun (drop (i + 1) ps))
replaced_flat m ps i y ks t h =
    let tail : flat m (drop (suc i) (begun ps)) ≡ begun (drop (i + 1) ps) =
    ap (flat m) (sym (begun-drop ps (suc i) t)) ∙ (flat-stays m (drop (suc i) ps) (each-drop (IsPartOf m) ps (suc i) h) ∙ ap (λ n. begun (drop n ps)) (sym (add-one i))) in
    let head : flat m (ks ++ y ∷ drop (suc i) (begun ps)) ≡ flat m ks ++ (open_part m y ++ flat m (drop (suc i) (begun ps))) = flat-append m ks (y ∷ drop (suc i) (begun ps)) in
    head ∙ ap (λ l. flat m ks ++ (open_part m y ++ l)) tail

pub par-whole : (k : NetPermits) (e : TermEvent) (ps qs rs : List Part) (i : ℕ) (y z : Tree) → AreTurns ps → EachTurn (IsPartOf par) ps → i < length ps → qs ≡ take i ps → begun rs ≡ begun qs ++ (open_part par y ++ begun (drop (i + 1) ps)) → z ≡ join_of par (begun rs) → Some z ≡ put k e (Join par (trees (begun ps))) i y
par-whole k e ps qs rs i y z t h l q r f =
    let long : i < length (begun ps) = omega (arith, begun-length ps t) in
    let left : put k e (Join par (trees (begun ps))) i y ≡ Some (join_all par (take i (begun ps) ++ y ∷ drop (suc i) (begun ps))) =
    ap (λ l. option_map (join_all par) (parts_left k par e l i y)) (items-trees (begun ps)) ∙ ap (option_map (join_all par)) (aside_left k e (begun ps) i y long) in
    let front : flat par (take i (begun ps)) ≡ begun qs =
    ap (flat par) (sym (begun-take ps i t)) ∙ (flat-stays par (take i ps) (each-take (IsPartOf par) ps i h) ∙ ap begun (sym q)) in
    let all : flat par (take i (begun ps) ++ y ∷ drop (suc i) (begun ps)) ≡ begun rs = replaced_flat par ps i y (take i (begun ps)) t h ∙ (ap (λ l. l ++ (open_part par y ++ begun (drop (i + 1) ps))) front ∙ sym r) in
    ap Some (f ∙ ap (join_of par) (sym all)) ∙ sym left

-- an event's block
pub taken-agrees : (t : Taken) → IsTaken t → (all : List ℕ) → AgreeOn all (block_of t.at) (only (instances_of (event_of t.event)).instances)
taken-agrees t h all = record { instances = λ n i. h.same n; numbers = λ n. ap (λ l. has l n) h.alone }

pub taken-permits : (w : Tables) (t : Taken) → IsTaken t → (x : Tree) → IsReady w x → permit (permits_of w) (block_of t.at) x ≡ permit (permits_of w) (only (instances_of (event_of t.event)).instances) x
taken-permits w t h x r = permit-alike (permits_of w) (touch (permits_of w).spread x) (block_of t.at) (only (instances_of (event_of t.event)).instances) (taken-agrees t h (touch (permits_of w).spread x)) x (λ n i. i) r.normal

-- parts in a row
module _ (w : Tables) (t : Taken) (taken : IsTaken t) where
  abbrev e : TermEvent
  e = event_of t.event

  first_map : (o : Option Tree) (p : Option (List Tree)) (zs : List Tree) → and_then o (option_map (λ ks. ks ++ zs) p) ≡ option_map (λ ks. ks ++ zs) (and_then o p)
  first_map None p zs = refl
  first_map (Some x) None zs = refl
  first_map (Some x) (Some ks) zs = refl

  row_left : (xs : List Tree) (i : ℕ) (y : Tree) → Each (IsReady w) xs → i < length xs → parts_left (permits_of w) seq e xs i y ≡ option_map (λ ks. ks ++ y ∷ drop (suc i) xs) (permit_all (permits_of w) (block_of t.at) (trees (take i xs)))
  row_left [] i y r l = absurd (omega arith)
  row_left (x ∷ xs) zero y r l = refl
  row_left (x ∷ xs) (suc i) y r l =
      (λ j. and_then (sym (taken-permits w t taken x r.0) j) (row_left xs i y r.1 (omega arith) j)) ∙ first_map (permit (permits_of w) (block_of t.at) x) (permit_all (permits_of w) (block_of t.at) (trees (take i xs))) (y ∷ drop (suc i) xs)

  put_row : (xs : List Tree) (i : ℕ) (y : Tree) → Each (IsReady w) xs → i < length xs
      → put (permits_of w) e (Join seq (trees xs)) i y ≡ option_map (join_all seq) (option_map (λ ks. ks ++ y ∷ drop (suc i) xs) (permit_all (permits_of w) (block_of t.at) (trees (take i xs))))
  put_row xs i y r l = ap (λ l. option_map (join_all seq) (parts_left (permits_of w) seq e l i y)) (items-trees xs) ∙ ap (option_map (join_all seq)) (row_left xs i y r l)

  pub row-none : (ps qs : List Part) (i : ℕ) (y : Tree) → AreTurns ps → EachTurn (IsReady w) ps → i < length ps → qs ≡ take i ps → opened_left (permits_of w) (block_of t.at) seq (begun qs) ≡ None → None ≡ put (permits_of w) e (Join seq (trees (begun ps))) i y
  row-none ps qs i y turns r l q h =
      let long : i < length (begun ps) = omega (arith, begun-length ps turns) in
      let here : opened_left (permits_of w) (block_of t.at) seq (take i (begun ps)) ≡ None = ap (opened_left (permits_of w) (block_of t.at) seq) (sym (ap begun q ∙ begun-take ps i turns)) ∙ h in
      sym (put_row (begun ps) i y (each-listed (IsReady w) ps r) long ∙ none_all (permit_all (permits_of w) (block_of t.at) (trees (take i (begun ps)))) here)
    where
      none_all : (o : Option (List Tree)) → option_map (flat seq) o ≡ None → option_map (join_all seq) (option_map (λ ks. ks ++ y ∷ drop (suc i) (begun ps)) o) ≡ None
      none_all None h = refl
      none_all (Some ks) h = cc

  pub row-whole : (ps qs ks rs : List Part) (i : ℕ) (y z : Tree) → AreTurns ps → EachTurn (IsReady w) ps → EachTurn (IsPartOf seq) ps → i < length ps → qs ≡ take i ps → opened_left (permits_of w) (block_of t.at) seq (begun qs) ≡ Some (begun ks) → begun rs ≡ begun ks ++ (open_part seq y ++ begun (drop (i + 1) ps)) → z ≡ join_of seq (begun rs)
      → Some z ≡ put (permits_of w) e (Join seq (trees (begun ps))) i y
  row-whole ps qs ks rs i y z turns r o l q h g f =
      let long : i < length (begun ps) = omega (arith, begun-length ps turns) in
      let here : opened_left (permits_of w) (block_of t.at) seq (take i (begun ps)) ≡ Some (begun ks) = ap (opened_left (permits_of w) (block_of t.at) seq) (sym (ap begun q ∙ begun-take ps i turns)) ∙ h in
      sym (put_row (begun ps) i y (each-listed (IsReady w) ps r) long ∙ (all (permit_all (permits_of w) (block_of t.at) (trees (take i (begun ps)))) here ∙ ap Some (ap (join_of seq) (sym g) ∙ sym f)))
    where
      all : (p : Option (List Tree)) → option_map (flat seq) p ≡ Some (begun ks) → option_map (join_all seq) (option_map (λ l. l ++ y ∷ drop (suc i) (begun ps)) p) ≡ Some (join_of seq (begun ks ++ (open_part seq y ++ begun (drop (i + 1) ps))))
      all None h = cc
      all (Some l) h =
          let e : flat seq l ≡ begun ks = cc in
          ap (λ m. Some (join_of seq m)) (replaced_flat seq ps i y l turns o ∙ ap (λ m. m ++ (open_part seq y ++ begun (drop (i + 1) ps))) e)

  -- below a tie
  pub tie-permits : (q : List (ℕ × ℕ)) (b : BlockValue) (y : Tree) → b.instances ≡ [] → ((n : ℕ) → has b.events n ≡ has (before_in q t.event.number) n) → IsReady w y → permit (permits_of w) (block_of b) y ≡ permit (permits_of w) (earlier q e) y
  tie-permits q b y h f r = permit-alike (permits_of w) (touch (permits_of w).spread y) (block_of b) (earlier q e) (record { instances = λ n i. ap (λ l. has l n) h; numbers = f }) y (λ n i. i) r.normal

pub tail-more : (hi : Option ℕ) (ps : List Part) (i j : ℕ) (t : Part) (r s n : RowRest) → slice_get ps i ≡ Some t → i + 1 ≡ j → r ≡ tail_of hi (drop j ps) s → n ≡ part_before hi t r → n ≡ tail_of hi (drop i ps) s
tail-more hi ps i j t r s n g e h f =
    let next : drop i ps ≡ t ∷ drop j ps = drop_suc ps i t g ∙ ap (λ l. t ∷ l) (ap (λ k. drop k ps) (sym (add-one i) ∙ e)) in
    f ∙ (ap (part_before hi t) h ∙ sym (ap (λ l. tail_of hi l s) next))

pub tail-start : (hi : Option ℕ) (ps : List Part) (s : RowRest) (n : ℕ) → n ≡ length ps → s ≡ tail_of hi (drop n ps) s
tail-start hi ps s n e = sym (ap (λ l. tail_of hi l s) (ap (λ k. drop k ps) e ∙ drop_all ps))
  where
    drop_all : (ps : List Part) → drop (length ps) ps ≡ []
    drop_all [] = refl
    drop_all (t ∷ ts) = drop_all ts

-- the parts of a row in normal form, as they are
thin_apart : (c : List ℕ) (ps : List Part) → IsTurnFirst ps → thin_gap c ps ≡ Gap c ∷ ps
thin_apart c [] h = refl
thin_apart c (Gap d ∷ ps) h = absurd h
thin_apart c (Turn x ∷ ps) h = refl

gap_stays : (hi : Option ℕ) (c : List ℕ) (r : RowRest) → (hi ≡ Some 0 → ⊥) → part_before hi (Gap c) r ≡ gap_before false c r
gap_stays None c r h = refl
gap_stays (Some zero) c r h = absurd (h refl)
gap_stays (Some (suc n)) c r h = refl

pub tail-whole : (hi : Option ℕ) (ps : List Part) → (hi ≡ Some 0 → ⊥) → AreApart ps → EachTurn IsNotNil ps → tail_of hi ps no_rest ≡ record { parts = ps; free = false }
tail-whole hi [] h a o = refl
tail-whole hi (Gap c ∷ ps) h a o =
    ap (part_before hi (Gap c)) (tail-whole hi ps h a.1 o) ∙ (gap_stays hi c (record { parts = ps; free = false }) h ∙ ap (λ l. record { parts = l; free = false }) (thin_apart c ps a.0))
tail-whole hi (Turn x ∷ ps) h a o = ap (turn_before x) (tail-whole hi ps h a o.1) ∙ ap (λ l. record { parts = l; free = false }) (put_same x ps o.0)

pub apart-drop : (ps : List Part) (i : ℕ) → AreApart ps → AreApart (drop i ps)
apart-drop ps zero h = h
apart-drop [] (suc i) h = tt
apart-drop (Gap c ∷ ps) (suc i) h = apart-drop ps i h.1
apart-drop (Turn x ∷ ps) (suc i) h = apart-drop ps i h

pub tail-all : (hi : Option ℕ) (ps : List Part) (s n : RowRest) → (hi ≡ Some 0 → ⊥) → AreApart ps → EachTurn IsNotNil ps → s ≡ no_rest → n ≡ record { parts = ps ++ s.parts; free = s.free } → n ≡ tail_of hi ps no_rest
tail-all hi ps s n h a o e f = f ∙ ((λ i. record { parts = ps ++ (e i).parts; free = (e i).free }) ∙ (ap (λ l. record { parts = l; free = false }) (append-nil ps) ∙ sym (tail-whole hi ps h a o)))

pub ruleset ascending = (tail-start, tail-all)
