-- An expression that was read is written so that it reads back, with no more levels open than in the text that was read.
use Rattle.std.proofs.Common.{ℕ, Bool, ◌≡◌, ◌∙◌, ◌+◌, ◌++◌, ◌≤◌, ◌<◌, ◌⊎◌, ◌-◌, true, false, List, [], ◌∷◌, refl, sym, ap, subst, inl, inr, suc, zero, arith, append-nil, codes, nat_lt, Some}
use Rattle.std.proofs.lemmas.Bool.{cases_lt}
use Rattle.std.proofs.lemmas.Bool.Decides.{nat_tests}
use Rattle.msc_tokens.specs.declared.token.Token.{Token}
use Rattle.msc_tree.specs.Expressions.{Expression, Expressions, Empty, Chart, Alt, Par, Seq, Opt, Loop, expressions}
use Rattle.token_grammar.specs.Languages.{any_fits, just}
use Rattle.token_grammar.specs.Languages as language
use Rattle.token_grammar.specs.Grammars.{Grammar, read_as, behind, bytes_of}
use Rattle.token_grammar.specs.Parts.{mark, separated}
use Rattle.msc_expression.specs.ExpressionGrammar.{joined, sequence, parallel, loop_rest, closed, chart_names, prefix, expression}
use Rattle.msc_expression.specs.declared.bounds.Bounds.{Bounds}
use Rattle.msc_expression.specs.Bounds.{bounds, with_bounds}
use Rattle.msc_print.specs.Words.{Words}
use Rattle.msc_print.specs.ExpressionWords.{looseness, enclosed, bound_words, part_words, expression_words, operator_words, other_words}
use Rattle.msc_print.proofs.Backs.{cut, no_token, Back, Any, same, back_bytes, but_plain}
use Rattle.msc_print.proofs.BoundsBack.{bounds_read, bounds_proper, bounds_tidy, writes_bounds}
use Rattle.msc_print.proofs.Tidy.{Tidy, done, Proper, is_fixed, fixed_tidy, fixed_around, tidy_append, proper_append}
use Rattle.msc_print.proofs.Written.{Fits, Writes, writes_seq, writes_bytes, writes_behind, writes_opens}

-- what binds at most so loosely
abbrev pub level : ℕ → ℕ → Grammar Expression
level zero n = prefix n
level (suc zero) n = sequence (prefix n)
level (suc (suc zero)) n = parallel (prefix n)
level (suc (suc (suc k))) n = expression n

-- it is written so that it reads back where so many levels, or more, may be open
abbrev pub Own : ℕ → Expression → Type 0
Own n a = (j : ℕ) → n ≤ j → Writes (level (looseness a) j) a (expression_words a)

-- what was read as a part that binds at most so loosely: it does, or it stood in parentheses
abbrev pub Known : ℕ → ℕ → Expression → Type 0
Known k n a = ((looseness a ≤ k) × Own n a) ⊎ ((k < looseness a) × ((m : ℕ) × (suc m ≤ n) × Own m a))

-- ---- parts alone

alone : (join : Expressions → Expression) (word : List ℕ) (R : Grammar Expression) (a : Expression) (u : Words) → Writes R a u → Writes (read_as (joined join) (separated word R)) a u
alone join word R a u h t e = (a ∷ [], ((a, []), (t, [], sym (append-nil t), h t e, refl), refl), refl)

looser : (k n : ℕ) (a : Expression) (u : Words) → Writes (level k n) a u → Writes (level (suc k) n) a u
looser zero n a u h = alone Seq (codes "seq") (level 0 n) a u h
looser (suc zero) n a u h = alone Par (codes "par") (level 1 n) a u h
looser (suc (suc zero)) n a u h = alone Alt (codes "alt") (level 2 n) a u h
looser (suc (suc (suc k))) n a u h = h

raised : (d j n : ℕ) (a : Expression) (u : Words) → Writes (level j n) a u → Writes (level (d + j) n) a u
raised zero j n a u h = let e : j ≡ 0 + j = omega arith in subst (λ (i : ℕ). Writes (level i n) a u) e h
raised (suc d) j n a u h = let e : suc (d + j) ≡ suc d + j = omega arith in subst (λ (i : ℕ). Writes (level i n) a u) e (looser (d + j) n a u (raised d j n a u h))

raise : (j k n : ℕ) (a : Expression) (u : Words) → j ≤ k → Writes (level j n) a u → Writes (level k n) a u
raise j k n a u below h = let e : (k - j) + j ≡ k = omega arith in subst (λ (i : ℕ). Writes (level i n) a u) e (raised (k - j) j n a u h)

least : (a : Expression) → looseness a ≤ 3
least Empty = omega arith
least (Chart c) = omega arith
least (Alt ps) = omega arith
least (Par ps) = omega arith
least (Seq ps) = omega arith
least (Opt p) = omega arith
least (Loop l u p) = omega arith

-- ---- parts with an operator between them

module _ (k : ℕ) (R : Grammar Expression) (word : List ℕ) (is : Fits (just word) word) where
  abbrev Parts : List Expression → Type 0
  Parts [] = Unit {0}
  Parts (p ∷ ps) = Writes R p (part_words k p (expression_words p)) × Parts ps

  others : (ps : List Expression) → Parts ps → (t : List Token) → language.texts t ≡ other_words k word (expressions ps) → language.each (behind (just word) R).reads t ps
  others [] h t e = no_token t e
  others (p ∷ ps) h t e =
      let u = part_words k p (expression_words p) in
      let c = cut t (word ∷ u) (other_words k word (expressions ps)) e in
      (c.0, c.1, c.2, writes_behind R word p u is h.0 c.0 c.3, others ps h.1 c.1 c.4)

  pub writes_parts : (p : Expression) (ps : List Expression) → Parts (p ∷ ps) → Writes (separated word R) (p ∷ ps) (operator_words k word (expressions (p ∷ ps)))
  writes_parts p ps h t e =
      let c = cut t (part_words k p (expression_words p)) (other_words k word (expressions ps)) e in
      ((p, ps), (c.0, c.1, c.2, h.0 c.0 c.3, others ps h.1 c.1 c.4), refl)

-- ---- levels

in_parentheses : (m : ℕ) (a : Expression) → Own m a → (j : ℕ) → suc m ≤ j → Writes (prefix j) a (enclosed (expression_words a))
unfolding prefix
in_parentheses m a h zero most = absurd (omega arith)
in_parentheses m a h (suc j) most = λ t e.
    let whole = raise (looseness a) 3 j a (expression_words a) (least a) (h j (omega arith)) in
    inr (inr (inl (writes_opens (closed (prefix j)) (codes "(") a (expression_words a ++ codes ")" ∷ []) refl
    (λ z i. ((a, codes ")"), writes_seq (expression j) (mark (codes ")")) a (codes ")") (expression_words a) (codes ")" ∷ []) whole (writes_bytes (just (codes ")")) (codes ")") refl) z i, refl)) t e)))

-- what is known of a part is enough to print it
print : (k n : ℕ) (a : Expression) → Known k n a → (j : ℕ) → n ≤ j → Writes (level k j) a (part_words (suc k) a (expression_words a))
print k n a (inl h) j most =
    let below = h.0 in
    let test : nat_lt (looseness a) (suc k) ≡ true = grind (arith, nat_tests) in
    rw test (raise (looseness a) k j a (expression_words a) h.0 (h.1 j most))
print k n a (inr h) j most =
    let above = h.0 in
    let inner = h.1.1 in
    let test : nat_lt (looseness a) (suc k) ≡ false = grind (arith, nat_tests) in
    rw test (raise 0 k j a (enclosed (expression_words a)) (omega arith) (in_parentheses h.1.0 a h.1.2 j (omega arith)))

looser_known : (k n : ℕ) (a : Expression) → Known k n a → Known (suc k) n a
looser_known k n a (inl h) = let below = h.0 in inl (omega arith, h.1)
looser_known k n a (inr h) = pick (cases_lt (suc k) (looseness a))
  where
    pick : (suc k < looseness a) ⊎ (looseness a ≤ suc k) → Known (suc k) n a
    pick (inl above) = inr (above, h.1)
    pick (inr below) = inl (below, λ j most. let deeper = h.1.1 in h.1.2 j (omega arith))

chart_back : (c : List ℕ) (x : List Token) → (bytes_of chart_names).reads x c → Writes (read_as Chart (bytes_of chart_names)) (Chart c) (c ∷ [])
chart_back c x h t e = (c, writes_bytes chart_names c (subst (λ (b : List ℕ). any_fits chart_names b ≡ true) (sym h.2) h.1.1) t e, refl)

loop_back : (m j : ℕ) (b : Bounds) (p : Expression) (x : List Token) → (with_bounds (prefix m)).reads x (b, p) → Writes (prefix j) p (part_words 1 p (expression_words p)) →
    Writes (loop_rest (prefix j)) (Loop b.lower b.upper p) (bound_words b.lower b.upper ++ part_words 1 p (expression_words p))
loop_back m j b p x h written t e =
    let s = bounds_read (prefix m) b p x h in
    let u = bound_words b.lower b.upper in
    let v = part_words 1 p (expression_words p) in
    ((b, p), ((Some b, p), inl ((b, p), writes_seq bounds (prefix j) b p u v (writes_bounds b s.0 s.1) written t e, refl), refl), refl)

-- ---- what was read is known

behind_of : (word : List ℕ) (R : Grammar Expression) (x : List Token) (p : Expression) → (behind (just word) R).reads x p → (z : List Token) × R.reads z p
behind_of word R x p h = (h.1.1, subst (λ (a : Expression). R.reads h.1.1 a) (sym h.2) h.1.4)

module _ (k n : ℕ) (R : ℕ → Grammar Expression) (join : Expressions → Expression) (word : List ℕ) (is : Fits (just word) word)
    (loose : (ps : Expressions) → looseness (join ps) ≡ suc k)
    (own_is : (j : ℕ) (ps : Expressions) → Writes (read_as (joined join) (separated word (R j))) (join ps) (operator_words (suc k) word ps) → Writes (level (looseness (join ps)) j) (join ps) (expression_words (join ps)))
    (back : (x : List Token) (a : Expression) → (R n).reads x a → Known k n a) (printed : (a : Expression) → Known k n a → (j : ℕ) → n ≤ j → Writes (R j) a (part_words (suc k) a (expression_words a))) where
  rest_back : (j : ℕ) → n ≤ j → (x : List Token) (ps : List Expression) → language.each (behind (just word) (R n)).reads x ps → Parts (suc k) (R j) word is ps
  rest_back j most x [] h = tt
  rest_back j most x (p ∷ ps) h = let r = behind_of word (R n) h.0 p h.3 in (printed p (back r.0 p r.1) j most, rest_back j most h.1 ps h.4)

  several_back : (x z : List Token) (p : Expression) (ps : List Expression) → (R n).reads x p → language.each (behind (just word) (R n)).reads z ps → Known (suc k) n (joined join (p ∷ ps))
  several_back x z p [] h hs = looser_known k n p (back x p h)
  several_back x z p (q ∷ ps) h hs =
      let list = expressions (p ∷ q ∷ ps) in
      let bound = loose list in
      inl (omega arith, λ j most. own_is j list (λ t e. (p ∷ q ∷ ps, writes_parts (suc k) (R j) word is p (q ∷ ps) (printed p (back x p h) j most, rest_back j most z (q ∷ ps) hs) t e, refl)))

  pub joined_back : (x : List Token) (a : Expression) → (read_as (joined join) (separated word (R n))).reads x a → Known (suc k) n a
  joined_back x a h =
      let c = h.1.1 in
      let value : a ≡ joined join (h.1.0.0 ∷ h.1.0.1) = h.2 ∙ ap (joined join) h.1.2 in
      subst (Known (suc k) n) (sym value) (several_back c.0 c.1 h.1.0.0 h.1.0.1 c.3 c.4)

module _ (n : ℕ) (back : (x : List Token) (a : Expression) → (prefix n).reads x a → Known 0 n a) where
  sequence_back : (x : List Token) (a : Expression) → (sequence (prefix n)).reads x a → Known 1 n a
  sequence_back = joined_back 0 n prefix Seq (codes "seq") refl (λ ps. refl) (λ j ps h. h) back (print 0 n)

  parallel_back : (x : List Token) (a : Expression) → (parallel (prefix n)).reads x a → Known 2 n a
  parallel_back = joined_back 1 n (λ j. sequence (prefix j)) Par (codes "par") refl (λ ps. refl) (λ j ps h. h) sequence_back (print 1 n)

  whole_back : (x : List Token) (a : Expression) → (expression n).reads x a → Known 3 n a
  whole_back = joined_back 2 n (λ j. parallel (prefix j)) Alt (codes "alt") refl (λ ps. refl) (λ j ps h. h) parallel_back (print 2 n)

-- what was read as an expression is written so that it reads back
own_of : (n : ℕ) (a : Expression) → Known 3 n a → Own n a
own_of n a (inl h) = h.1
own_of n a (inr h) = let above = h.0 in let most = least a in absurd (omega arith)

-- in parentheses, one level up
closed_known : (m : ℕ) (a : Expression) → Own m a → Known 0 (suc m) a
closed_known m a h = pick (cases_lt 0 (looseness a))
  where
    pick : (0 < looseness a) ⊎ (looseness a ≤ 0) → Known 0 (suc m) a
    pick (inl above) = inr (above, (m, omega arith, h))
    pick (inr below) = inl (below, λ j most. h j (omega arith))

empty_own : (n : ℕ) → Own n Empty
unfolding prefix
empty_own n zero most t e = inr (inr (inr (inl (codes "empty", writes_bytes (just (codes "empty")) (codes "empty") refl t e, refl))))
empty_own n (suc j) most t e = inr (inr (inr (inl (codes "empty", writes_bytes (just (codes "empty")) (codes "empty") refl t e, refl))))

chart_own : (n : ℕ) (c : List ℕ) (x : List Token) → (bytes_of chart_names).reads x c → Own n (Chart c)
unfolding prefix
chart_own n c x h zero most t e = inr (inr (inr (inr (chart_back c x h t e))))
chart_own n c x h (suc j) most t e = inr (inr (inr (inr (chart_back c x h t e))))

loop_own : (m : ℕ) (b : Bounds) (p : Expression) (x : List Token) → (with_bounds (prefix m)).reads x (b, p) → Known 0 m p → Own (suc m) (Loop b.lower b.upper p)
unfolding prefix
loop_own m b p x h known zero most = absurd (omega arith)
loop_own m b p x h known (suc j) most = λ t e.
    inl (writes_opens (loop_rest (prefix j)) (codes "loop") (Loop b.lower b.upper p) (bound_words b.lower b.upper ++ part_words 1 p (expression_words p)) refl (loop_back m j b p x h (print 0 m p known j (omega arith))) t e)

opt_own : (m : ℕ) (p : Expression) → Known 0 m p → Own (suc m) (Opt p)
unfolding prefix
opt_own m p known zero most = absurd (omega arith)
opt_own m p known (suc j) most = λ t e.
    inr (inl (writes_opens (read_as Opt (prefix j)) (codes "opt") (Opt p) (part_words 1 p (expression_words p)) refl (λ z i. (p, print 0 m p known j (omega arith) z i, refl)) t e))

pub prefix_back : (n : ℕ) (x : List Token) (a : Expression) → (prefix n).reads x a → Known 0 n a
unfolding prefix
prefix_back zero x a (inl h) = absurd h
prefix_back zero x a (inr (inl h)) = absurd h
prefix_back zero x a (inr (inr (inl h))) = absurd h
prefix_back zero x a (inr (inr (inr (inl h)))) = subst (Known 0 0) (sym h.2) (inl (omega arith, empty_own 0))
prefix_back zero x a (inr (inr (inr (inr h)))) = subst (Known 0 0) (sym h.2) (inl (omega arith, chart_own 0 h.0 x h.1))
prefix_back (suc m) x a (inl h) =
    let r = h.4 in
    let s = bounds_read (prefix m) r.0.0 r.0.1 h.1 r.1 in
    subst (Known 0 (suc m)) (sym r.2) (inl (omega arith, loop_own m r.0.0 r.0.1 h.1 r.1 (prefix_back m s.2.0 r.0.1 s.2.1)))
prefix_back (suc m) x a (inr (inl h)) =
    let r = h.4 in
    subst (Known 0 (suc m)) (sym r.2) (inl (omega arith, opt_own m r.0 (prefix_back m h.1 r.0 r.1)))
prefix_back (suc m) x a (inr (inr (inl h))) =
    let r = h.4 in
    let inner = r.1 in
    subst (Known 0 (suc m)) (sym r.2) (closed_known m r.0.0 (own_of m r.0.0 (whole_back m (prefix_back m) inner.0 r.0.0 inner.3)))
prefix_back (suc m) x a (inr (inr (inr (inl h)))) = subst (Known 0 (suc m)) (sym h.2) (inl (omega arith, empty_own (suc m)))
prefix_back (suc m) x a (inr (inr (inr (inr h)))) = subst (Known 0 (suc m)) (sym h.2) (inl (omega arith, chart_own (suc m) h.0 x h.1))

-- an expression that was read is written so that it reads back
pub expression_reads : (n : ℕ) (tokens others : List Token) (x : Expression) → (expression n).reads tokens x → language.texts others ≡ expression_words x → (expression n).reads others x
expression_reads n tokens others x h e = raise (looseness x) 3 n x (expression_words x) (least x) (own_of n x (whole_back n (prefix_back n) tokens x h) n (omega arith)) others e

-- ---- of tokens of a text, the texts are tidy

abbrev KeepsTidy : Grammar Expression → Type 0
KeepsTidy R = (x : List Token) (a : Expression) → R.reads x a → Proper x → Tidy (expression_words a)

part_tidy : (k : ℕ) (a : Expression) (u : Words) → Tidy u → Tidy (part_words k a u)
part_tidy k a u h = by (nat_lt (looseness a) k) refl
  where
    by : (b : Bool) → nat_lt (looseness a) k ≡ b → Tidy (part_words k a u)
    by true i = rw i h
    by false i = rw i (fixed_around (codes "(") (codes ")") u refl refl h)

module _ (k : ℕ) (join : Expressions → Expression) (word : List ℕ) (is : is_fixed word ≡ true) (writes : (ps : Expressions) → expression_words (join ps) ≡ operator_words k word ps) (R : Grammar Expression) (r : KeepsTidy R) where
  others_tidy : (x : List Token) (ps : List Expression) → language.each (behind (just word) R).reads x ps → Proper x → Tidy (other_words k word (expressions ps))
  others_tidy x [] h proper = done
  others_tidy x (p ∷ ps) h proper =
      let known = proper_append h.0 h.1 (subst Proper h.2 proper) in
      let deeper = proper_append h.3.1.0 h.3.1.1 (subst Proper h.3.1.2 known.0) in
      let part = r h.3.1.1 p (subst (λ (a : Expression). R.reads h.3.1.1 a) (sym h.3.2) h.3.1.4) deeper.1 in
      let u = part_words k p (expression_words p) in
      let v = other_words k word (expressions ps) in
      fixed_tidy word (u ++ v) is (tidy_append u v (part_tidy k p (expression_words p) part) (others_tidy h.1 ps h.4 known.1))

  several_tidy : (x z : List Token) (p : Expression) (ps : List Expression) → R.reads x p → language.each (behind (just word) R).reads z ps → Proper x → Proper z → Tidy (expression_words (joined join (p ∷ ps)))
  several_tidy x z p [] h hs one rest = r x p h one
  several_tidy x z p (q ∷ ps) h hs one rest =
      let u = part_words k p (expression_words p) in
      let v = other_words k word (expressions (q ∷ ps)) in
      subst Tidy (sym (writes (expressions (p ∷ q ∷ ps)))) (tidy_append u v (part_tidy k p (expression_words p) (r x p h one)) (others_tidy z (q ∷ ps) hs rest))

  joined_tidy : KeepsTidy (read_as (joined join) (separated word R))
  joined_tidy x a h proper =
      let c = h.1.1 in
      let known = proper_append c.0 c.1 (subst Proper c.2 proper) in
      let value : a ≡ joined join (h.1.0.0 ∷ h.1.0.1) = h.2 ∙ ap (joined join) h.1.2 in
      subst Tidy (sym (ap expression_words value)) (several_tidy c.0 c.1 h.1.0.0 h.1.0.1 c.3 c.4 known.0 known.1)

whole_tidy : (n : ℕ) → KeepsTidy (prefix n) → KeepsTidy (expression n)
whole_tidy n r = joined_tidy 3 Alt (codes "alt") refl (λ ps. refl) (parallel (prefix n)) (joined_tidy 2 Par (codes "par") refl (λ ps. refl) (sequence (prefix n)) (joined_tidy 1 Seq (codes "seq") refl (λ ps. refl) (prefix n) r))

empty_tidy : Tidy (expression_words Empty)
empty_tidy = fixed_tidy (codes "empty") [] refl done

chart_tidy : (c : List ℕ) (x : List Token) → (bytes_of chart_names).reads x c → Proper x → Tidy (c ∷ [])
chart_tidy c x h proper = (back_bytes chart_names (but_plain (codes "empty" ∷ []))).tidy x c h proper

prefix_tidy : (n : ℕ) → KeepsTidy (prefix n)
unfolding prefix
prefix_tidy zero x a (inl h) proper = absurd h
prefix_tidy zero x a (inr (inl h)) proper = absurd h
prefix_tidy zero x a (inr (inr (inl h))) proper = absurd h
prefix_tidy zero x a (inr (inr (inr (inl h)))) proper = subst Tidy (sym (ap expression_words h.2)) empty_tidy
prefix_tidy zero x a (inr (inr (inr (inr h)))) proper = subst Tidy (sym (ap expression_words h.2)) (chart_tidy h.0 x h.1 proper)
prefix_tidy (suc m) x a (inl h) proper =
    let r = h.4 in
    let known = subst Proper h.2 proper in
    let s = bounds_read (prefix m) r.0.0 r.0.1 h.1 r.1 in
    let inner = bounds_proper (prefix m) r.0.0 r.0.1 h.1 r.1 known.1 in
    let u = part_words 1 r.0.1 (expression_words r.0.1) in
    let part = part_tidy 1 r.0.1 (expression_words r.0.1) (prefix_tidy m inner.0 r.0.1 inner.1 inner.2) in
    let lower = r.0.0.lower in
    let upper = r.0.0.upper in
    subst Tidy (sym (ap expression_words r.2)) (fixed_tidy (codes "loop") (bound_words lower upper ++ u) refl (bounds_tidy lower upper u s.0 s.1 part))
prefix_tidy (suc m) x a (inr (inl h)) proper =
    let r = h.4 in
    let known = subst Proper h.2 proper in
    let u = part_words 1 r.0 (expression_words r.0) in
    subst Tidy (sym (ap expression_words r.2)) (fixed_tidy (codes "opt") u refl (part_tidy 1 r.0 (expression_words r.0) (prefix_tidy m h.1 r.0 r.1 known.1)))
prefix_tidy (suc m) x a (inr (inr (inl h))) proper =
    let r = h.4 in
    let inner = r.1 in
    let known = subst Proper h.2 proper in
    let part = proper_append inner.0 inner.1 (subst Proper inner.2 known.1) in
    subst Tidy (sym (ap expression_words r.2)) (whole_tidy m (prefix_tidy m) inner.0 r.0.0 inner.3 part.0)
prefix_tidy (suc m) x a (inr (inr (inr (inl h)))) proper = subst Tidy (sym (ap expression_words h.2)) empty_tidy
prefix_tidy (suc m) x a (inr (inr (inr (inr h)))) proper = subst Tidy (sym (ap expression_words h.2)) (chart_tidy h.0 x h.1 proper)

pub expression_back : (n : ℕ) → Back (expression n) Any expression_words same
expression_back n = record { back = λ x a h. (tt, λ t e. (a, expression_reads n x t a h e, refl)); tidy = whole_tidy n (prefix_tidy n) }
