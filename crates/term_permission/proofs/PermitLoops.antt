-- What permission leaves of a loop, by its row's parts.
use Rattle.std.specs.Prelude.{ℕ, ◌<◌, Bool, true, false, ltb, List, [], ◌∷◌, ◌≡◌, ◌==◌, Option, Some, None, refl}
use Rattle.std.specs.Option.{option_map}
use Rattle.std.proofs.Common.{ap, sym, ◌∙◌, arith, cond}
use Rattle.std.proofs.lemmas.Bool.Decides.{nat_tests}
use Rattle.chart_term.specs.NormalForms.{NetPermits, only, cut, turns_in}
use Rattle.chart_term.specs.Properties.{EachGap}
use Rattle.chart_term.specs.Tables.{Tables}
use Rattle.chart_term.specs.Terms.{Block, has, add_at, add_member, ◌∪◌, Tree, Loop, Part, Gap, Turn, row_of}
use Rattle.chart_term.proofs.Lists.{parts-row_of}
use Rattle.term_laws.specs.Normality.{IsSet, IsAbove, IsNormalLoop, IsNormalRow}
use Rattle.chart_term.specs.Spreads.{touch, spread_of}
use Rattle.term_laws.specs.Permission.{permit, permit_row, wider, with_turn, permits_of}
use Rattle.term_permission.specs.Ready.{IsReady, AreReadyParts, IsReadyLoop, IsRowWithin}
use Rattle.term_permission.specs.RowRests.{RowRest, no_rest, turn_before, open_before, rest_of, rest_end, kept_before, keep_first, keep_parts}
use Rattle.term_laws.proofs.Normalising.{union_set, above_cut}
use Rattle.term_permission.proofs.RowRests.{turns-rest}

-- the cut of a union is the union of the cuts
above_added : (n : ℕ) (c : List ℕ) → IsAbove n c → add_member n c ≡ n ∷ c
above_added n [] h = refl
above_added n (m ∷ c) h = let e : (n == m) ≡ false = grind (arith, nat_tests) in let l : ltb n m ≡ true = grind (arith, nat_tests) in rw (e, l)

cut_in : (all : List ℕ) (n : ℕ) (c : List ℕ) → has all n ≡ true → IsSet c → cut all (add_member n c) ≡ add_member n (cut all c)
cut_in all n [] h s = ap (λ t. cond t (n ∷ []) []) h
cut_in all n (m ∷ c) h s = go (n == m) (ltb n m) refl refl (cut_in all n c h s.1)
  where
    go : (a b : Bool) → (n == m) ≡ a → ltb n m ≡ b → cut all (add_member n c) ≡ add_member n (cut all c) → cut all (add_at a b n m c (add_member n c)) ≡ add_member n (cut all (m ∷ c))
    go true b e l r =
        let q : n ≡ m = grind (arith, nat_tests) in
        let there : has all m ≡ true = ap (has all) (sym q) ∙ h in
        rw there (sym (ap (λ t. add_at t (ltb n m) n m (cut all c) (add_member n (cut all c))) e))
    go false true e l r =
        let less : n < m = grind (arith, nat_tests) in
        ap (λ t. cond t (n ∷ cut all (m ∷ c)) (cut all (m ∷ c))) h ∙ sym (above_added n (cut all (m ∷ c)) (above_cut all n (m ∷ c) s less))
    go false false e l r = last (has all m)
      where
        last : (t : Bool) → cond t (m ∷ cut all (add_member n c)) (cut all (add_member n c)) ≡ add_member n (cond t (m ∷ cut all c) (cut all c))
        last true = ap (λ l. m ∷ l) r ∙ sym (λ i. add_at (e i) (l i) n m (cut all c) (add_member n (cut all c)))
        last false = r

cut_out : (all : List ℕ) (n : ℕ) (c : List ℕ) → has all n ≡ false → cut all (add_member n c) ≡ cut all c
cut_out all n [] h = ap (λ t. cond t (n ∷ []) []) h
cut_out all n (m ∷ c) h = go (n == m) (ltb n m) (cut_out all n c h)
  where
    go : (s t : Bool) → cut all (add_member n c) ≡ cut all c → cut all (add_at s t n m c (add_member n c)) ≡ cut all (m ∷ c)
    go true t r = refl
    go false true r = ap (λ t. cond t (n ∷ cut all (m ∷ c)) (cut all (m ∷ c))) h
    go false false r = ap (λ l. cond (has all m) (m ∷ l) l) r

cut-union : (all c d : List ℕ) → IsSet c → cut all (c ∪ d) ≡ cut all c ∪ cut all d
cut-union all c [] h = refl
cut-union all c (n ∷ d) h = go (has all n) refl (cut-union all c d h)
  where
    go : (t : Bool) → has all n ≡ t → cut all (c ∪ d) ≡ cut all c ∪ cut all d → cut all (add_member n (c ∪ d)) ≡ cut all c ∪ cond t (n ∷ cut all d) (cut all d)
    go true e r = cut_in all n (c ∪ d) e (union_set c d h) ∙ ap (add_member n) r
    go false e r = cut_out all n (c ∪ d) e ∙ r

pub cut_alike : (a b c : List ℕ) → ((n : ℕ) → has a n ≡ has b n) → cut a c ≡ cut b c
cut_alike a b [] h = refl
cut_alike a b (m ∷ c) h = λ i. cond (h m i) (m ∷ cut_alike a b c h i) (cut_alike a b c h i)

module _ (k : NetPermits) (x : Tree) (hi : Option ℕ) (b : Block) (all d : List ℕ) (narrow : d ≡ cut all b.instances) where
  abbrev p : List ℕ → Option Tree
  p c = permit k (only c) x

  abbrev q : Tree → Option Tree
  q y = permit k b y

  gap_kept : (c : List ℕ) (o : Option (List Part)) (r : Option RowRest) → IsSet c → cut all c ≡ c → r ≡ option_map (rest_of p all hi) o
      → keep_first p q hi d (Gap c) r ≡ option_map (rest_of p all hi) (wider c o b.instances)
  gap_kept c None r s e h = rw h
  gap_kept c (Some ps) r s e h =
      let wide : c ∪ d ≡ cut all (c ∪ b.instances) = (λ i. sym e i ∪ narrow i) ∙ sym (cut-union all c b.instances s) in
      rw h (λ i. Some (open_before hi (p (wide i)) (wide i) (rest_of p all hi ps)))

  turn_kept : (y : Tree) (o : Option (List Part)) (r : Option RowRest) (s : Option Tree) → permit k b y ≡ s → r ≡ option_map (rest_of p all hi) o
      → keep_first p q hi d (Turn y) r ≡ option_map (rest_of p all hi) (with_turn s o)
  turn_kept y None r None f h = rw h
  turn_kept y None r (Some z) f h = rw h
  turn_kept y (Some ps) r None f h = rw h (ap (λ o. kept_before o (rest_of p all hi ps)) f)
  turn_kept y (Some ps) r (Some z) f h = rw h (ap (λ o. kept_before o (rest_of p all hi ps)) f)

  parts_kept : (ps : List Part) → EachGap IsSet ps → EachGap (λ c. cut all c ≡ c) ps → keep_parts p q hi d ps no_rest ≡ option_map (rest_of p all hi) (permit_row k b (row_of ps))
  parts_kept [] s e = refl
  parts_kept (Gap c ∷ ps) s e = gap_kept c (permit_row k b (row_of ps)) (keep_parts p q hi d ps no_rest) s.0 e.0 (parts_kept ps s.1 e.1)
  parts_kept (Turn y ∷ ps) s e = turn_kept y (permit_row k b (row_of ps)) (keep_parts p q hi d ps no_rest) (permit k b y) refl (parts_kept ps s e)

  row_end : (lo : ℕ) (o : Option (List Part)) (r : RowRest) → option_map (rest_of p all hi) o ≡ Some r → turns_in p all x lo hi o ≡ rest_end x lo hi r
  row_end lo None r h = cc
  row_end lo (Some ps) r h = turns-rest p all x lo hi ps ∙ ap (rest_end x lo hi) (let e : rest_of p all hi ps ≡ r = cc in e)

  row_none : (lo : ℕ) (o : Option (List Part)) → option_map (rest_of p all hi) o ≡ None → turns_in p all x lo hi o ≡ None
  row_none lo None h = refl
  row_none lo (Some ps) h = cc

  module _ (alike : (n : ℕ) → has all n ≡ has (touch k.spread x) n) where
    gaps_alike : (ps : List Part) → EachGap (λ c. cut (touch k.spread x) c ≡ c) ps → EachGap (λ c. cut all c ≡ c) ps
    gaps_alike [] h = tt
    gaps_alike (Gap c ∷ ps) h = (cut_alike all (touch k.spread x) c alike ∙ h.0, gaps_alike ps h.1)
    gaps_alike (Turn y ∷ ps) h = gaps_alike ps h

    rest_alike : (ps : List Part) → rest_of p all hi ps ≡ rest_of p (touch k.spread x) hi ps
    rest_alike [] = refl
    rest_alike (Gap c ∷ ps) = λ i. open_before hi (p (cut_alike all (touch k.spread x) c alike i)) (cut_alike all (touch k.spread x) c alike i) (rest_alike ps i)
    rest_alike (Turn y ∷ ps) = ap (turn_before y) (rest_alike ps)

    turns_alike : (lo : ℕ) (o : Option (List Part)) → turns_in p (touch k.spread x) x lo hi o ≡ turns_in p all x lo hi o
    turns_alike lo None = refl
    turns_alike lo (Some ps) = turns-rest p (touch k.spread x) x lo hi ps ∙ (ap (rest_end x lo hi) (sym (rest_alike ps)) ∙ sym (turns-rest p all x lo hi ps))

    kept_end : (lo : ℕ) (ps : List Part) (r : RowRest) → IsNormalLoop k x hi ps → keep_parts p q hi d ps no_rest ≡ Some r → permit k b (Loop x lo hi (row_of ps)) ≡ rest_end x lo hi r
    kept_end lo ps r n h = turns_alike lo (permit_row k b (row_of ps)) ∙ row_end lo (permit_row k b (row_of ps)) r (sym (parts_kept ps n.sets (gaps_alike ps n.cuts)) ∙ h)

    kept_none : (lo : ℕ) (ps : List Part) → IsNormalLoop k x hi ps → keep_parts p q hi d ps no_rest ≡ None → permit k b (Loop x lo hi (row_of ps)) ≡ None
    kept_none lo ps n h = turns_alike lo (permit_row k b (row_of ps)) ∙ row_none lo (permit_row k b (row_of ps)) (sym (parts_kept ps n.sets (gaps_alike ps n.cuts)) ∙ h)

module _ (w : Tables) (x : Tree) (lo : ℕ) (hi : Option ℕ) (ps : List Part) (b : Block) (all d : List ℕ) (h : IsReadyLoop w x hi ps) (alike : (n : ℕ) → has all n ≡ has (touch (spread_of w) x) n) (narrow : d ≡ cut all b.instances) where
  abbrev kept : Option RowRest
  kept = keep_parts (λ c. permit (permits_of w) (only c) x) (λ y. permit (permits_of w) b y) hi d ps no_rest

  pub loop-left : (r : RowRest) → kept ≡ Some r → permit (permits_of w) b (Loop x lo hi (row_of ps)) ≡ rest_end x lo hi r
  loop-left r e = kept_end (permits_of w) x hi b all d narrow alike lo ps r h.normal e

  pub loop-none : kept ≡ None → permit (permits_of w) b (Loop x lo hi (row_of ps)) ≡ None
  loop-none e = kept_none (permits_of w) x hi b all d narrow alike lo ps h.normal e

-- the parts of a loop that is ready
row_ready : (w : Tables) (ps : List Part) → IsRowWithin w (row_of ps) → IsNormalRow (permits_of w) (row_of ps) → EachGap IsSet ps → AreReadyParts w ps
row_ready w [] h n s = tt
row_ready w (Gap c ∷ ps) h n s = (s.0, row_ready w ps h n s.1)
row_ready w (Turn y ∷ ps) h n s = (record { within = h.0; normal = n.0 }, row_ready w ps h.1 n.1 s)

turns_ready : (w : Tables) (x : Tree) (lo : ℕ) (hi : Option ℕ) (ps : List Part) → IsReady w (Loop x lo hi (row_of ps)) → IsReadyLoop w x hi ps
turns_ready w x lo hi ps h =
    let n : IsNormalLoop (permits_of w) x hi ps = rw (parts-row_of ps) at h.normal.2 in
    record { body = record { within = h.within.0; normal = h.normal.0 }; parts = row_ready w ps h.within.2 h.normal.1 n.sets; normal = n }

pub ready-loop : (w : Tables) (x y : Tree) (lo : ℕ) (hi : Option ℕ) (ps : List Part) → x ≡ Loop y lo hi (row_of ps) → IsReady w x → IsReadyLoop w y hi ps
ready-loop w x y lo hi ps e h = turns_ready w y lo hi ps (rw e at h)

-- what a test said
pub if-kept : (t : Bool) (r : RowRest) (o : Option RowRest) → cond t (Some r) None ≡ o → t ≡ true → o ≡ Some r
if-kept true r o h e = sym h
if-kept false r o h e = cc

pub if-lost : (t : Bool) (r : RowRest) (o : Option RowRest) → cond t (Some r) None ≡ o → t ≡ false → o ≡ None
if-lost true r o h e = cc
if-lost false r o h e = sym h
