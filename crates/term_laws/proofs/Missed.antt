-- Permission by a block that misses a term in normal form gives the term back.
use Rattle.std.specs.Prelude.{ℕ, Bool, true, false, List, [], ◌∷◌, ◌++◌, ◌≡◌, ◌&&◌, ◌||◌, ◌==◌, not, Option, Some, None, refl, ltb, nat_le}
use Rattle.std.specs.List.{list_any}
use Rattle.std.specs.Option.{option_map}
use Rattle.std.proofs.Common.{ap, ap₂, subst, ◌∙◌, sym, arith, cond}
use Rattle.std.proofs.lemmas.Bool.{eq-eqb, eqb-true, and_parts, or_parts, not-true}
use Rattle.std.proofs.lemmas.Bool.Decides.{nat_tests}
use Rattle.std.proofs.lemmas.List.Folds.{list_any-append}
use Rattle.bit_sets.specs.Blocks.{BlockValue}
use Rattle.list_facts.proofs.Bools.{or_true}
use Rattle.term_facts.specs.declared.facts.Span.{Span}
use Rattle.chart_term.specs.Facts.{holds_walk, any_walk, row_walk, instances, instances_all, instances_row, misses, row_misses, span_of, lies_in, wider as wider_span}
use Rattle.chart_term.specs.NormalForms.{NetPermits, only, cut, join_all, and_then, or_skip, unless, choice_of, tie_of, cut_gaps, drop_nil, at_zero, live, has_free, drop_free, lower_of, thin, turns_end, turns_in, numbers, numbers_all, numbers_row}
use Rattle.chart_term.specs.Properties.{EachTurn}
use Rattle.chart_term.specs.TermPatterns.{instances_of, some_list}
use Rattle.chart_term.specs.Terms.{Block, TermEvent, has, has_some, hits, add_at, add_member, ◌∪◌, Tree, Nil, Event, Join, Choice, Tied, Loop, Walk, Trees, none, more, Row, ends, gap, turn, items, Part, Gap, Turn, parts, row_of}
use Rattle.term_laws.specs.Missed.{PermitOfMissed}
use Rattle.term_laws.specs.Normality.{IsNormal, AreNormal, IsNormalRow}
use Rattle.chart_term.specs.Spreads.{touch, touch_all, touch_row}
use Rattle.term_laws.specs.Permission.{permit, permit_all, permit_some, permit_row, permits_of, wider, with_turn}
use Rattle.term_laws.specs.Values.{block_of}
use Rattle.term_laws.proofs.Identity.{join_same, choice_same, bound_same, turns_same}

-- no number of the first list is in the second
abbrev IsApart : List ℕ → List ℕ → Type 0
IsApart [] ns = Unit {0}
IsApart (m ∷ ms) ns = (has ns m ≡ false) × IsApart ms ns

apart_parts : (ms ps qs : List ℕ) → IsApart ms (ps ++ qs) → IsApart ms ps × IsApart ms qs
apart_parts [] ps qs h = (tt, tt)
apart_parts (m ∷ ms) ps qs h =
    let (a, b) = or_parts (has ps m) (has qs m) (sym (list_any-append (λ n. n == m) ps qs) ∙ h.0) in
    let (c, d) = apart_parts ms ps qs h.1 in
    ((a, c), (b, d))

-- a number of the second list isn't in the first
apart_has : (ms ns : List ℕ) (n : ℕ) → IsApart ms ns → has ns n ≡ true → has ms n ≡ false
apart_has [] ns n h k = refl
apart_has (m ∷ ms) ns n h k = go (m == n) refl (apart_has ms ns n h.1 k)
  where
    go : (b : Bool) → (m == n) ≡ b → has ms n ≡ false → ((m == n) || has ms n) ≡ false
    go true e rest = let bad : true ≡ false = sym k ∙ (ap (has ns) (sym (eqb-true m n e)) ∙ h.0) in cc
    go false e rest = ap₂ (λ a b. a || b) e rest

-- an event that is missed isn't hit
event_missed : (b : Block) (e : TermEvent) → IsApart b.instances (instances_of e).instances → IsApart b.numbers (e.number ∷ []) → hits b e ≡ false
event_missed b e p q = ap₂ (λ m n. m || n) (ap₂ (λ m n. m || n) at (also e.also p)) number
  where
    at : has b.instances e.at ≡ false
    at = apart_has b.instances (instances_of e).instances e.at p (ap (λ t. t || has (some_list e.also) e.at) (eq-eqb e.at e.at refl))

    also : (o : Option ℕ) → IsApart b.instances (e.at ∷ some_list o) → has_some b.instances o ≡ false
    also None h = refl
    also (Some n) h = apart_has b.instances (e.at ∷ n ∷ []) n h (ap (λ t. (e.at == n) || (t || false)) (eq-eqb n n refl) ∙ or_true (e.at == n))

    number : has b.numbers e.number ≡ false
    number = apart_has b.numbers (e.number ∷ []) e.number q (ap (λ t. t || false) (eq-eqb e.number e.number refl))

-- a number that isn't kept changes no cut
cut_member : (all : List ℕ) (n : ℕ) (ms : List ℕ) → has all n ≡ false → cut all (add_member n ms) ≡ cut all ms
cut_member all n [] e = ap (λ t. cond t (n ∷ []) []) e
cut_member all n (m ∷ ms) e = go (n == m) (ltb n m) (cut_member all n ms e)
  where
    go : (a b : Bool) → cut all (add_member n ms) ≡ cut all ms → cut all (add_at a b n m ms (add_member n ms)) ≡ cut all (m ∷ ms)
    go true b rest = refl
    go false true rest = ap (λ t. cond t (n ∷ cut all (m ∷ ms)) (cut all (m ∷ ms))) e
    go false false rest = ap (λ l. cond (has all m) (m ∷ l) l) rest

cut_union : (all c d : List ℕ) → IsApart d all → cut all (c ∪ d) ≡ cut all c
cut_union all c [] h = refl
cut_union all c (n ∷ d) h = cut_member all n (c ∪ d) h.0 ∙ cut_union all c d h.1

-- a row whose blocks grow
abbrev widened : List ℕ → List Part → List Part
widened d [] = []
widened d (Gap c ∷ ps) = Gap (c ∪ d) ∷ widened d ps
widened d (Turn x ∷ ps) = Turn x ∷ widened d ps

cut_widened : (all d : List ℕ) (ps : List Part) → IsApart d all → cut_gaps all (widened d ps) ≡ cut_gaps all ps
cut_widened all d [] h = refl
cut_widened all d (Gap c ∷ ps) h = λ i. Gap (cut_union all c d h i) ∷ cut_widened all d ps h i
cut_widened all d (Turn x ∷ ps) h = ap (λ l. Turn x ∷ l) (cut_widened all d ps h)

-- without a walk a term touches the instances of its events
mutual
  touch_same : (k : ℕ → List ℕ) (x : Tree) → holds_walk x ≡ false → touch k x ≡ instances x
  touch_same k Nil h = refl
  touch_same k (Event e) h = refl
  touch_same k (Join m xs) h = touch_same_all k xs h
  touch_same k (Choice xs) h = touch_same_all k xs h
  touch_same k (Tied x q) h = touch_same k x h
  touch_same k (Loop x lo hi r) h = let (a, b) = or_parts (holds_walk x) (row_walk r) h in λ i. touch_same k x a i ++ touch_same_row k r b i
  touch_same k (Walk n f t c) h = cc

  touch_same_all : (k : ℕ → List ℕ) (xs : Trees) → any_walk xs ≡ false → touch_all k xs ≡ instances_all xs
  touch_same_all k none h = refl
  touch_same_all k (more x xs) h = let (a, b) = or_parts (holds_walk x) (any_walk xs) h in λ i. touch_same k x a i ++ touch_same_all k xs b i

  touch_same_row : (k : ℕ → List ℕ) (r : Row) → row_walk r ≡ false → touch_row k r ≡ instances_row r
  touch_same_row k ends h = refl
  touch_same_row k (gap c r) h = touch_same_row k r h
  touch_same_row k (turn x r) h = let (a, b) = or_parts (holds_walk x) (row_walk r) h in λ i. touch_same k x a i ++ touch_same_row k r b i

module _ (k : NetPermits) (b : Block) where
  mutual
    missed_same : (x : Tree) → IsNormal k x → holds_walk x ≡ false → IsApart b.instances (instances x) → IsApart b.numbers (numbers x) → permit k b x ≡ Some x
    missed_same Nil h w p q = refl
    missed_same (Event e) h w p q = ap (λ t. unless t (Event e)) (event_missed b e p q)
    missed_same (Join m xs) h w p q = ap (option_map (join_all m)) (missed_all xs h.0 w p q) ∙ ap Some (join_same m xs h.1 h.2)
    missed_same (Choice xs) h w p q = ap choice_of (missed_some xs h.0 w p q) ∙ choice_same xs h.1 h.2 h.3
    missed_same (Tied x t) h w p q = ap (option_map (λ y. tie_of y t)) (missed_same x h.0 w p q) ∙ ap Some (bound_same x t h.1 h.2 h.3)
    missed_same (Loop x lo hi r) h w p q =
        let (u, v) = or_parts (holds_walk x) (row_walk r) w in
        let (c, d) = apart_parts b.instances (instances x) (instances_row r) p in
        let (e, f) = apart_parts b.numbers (numbers x) (numbers_row r) q in
        let all : List ℕ = touch k.spread x in
        let left : List ℕ → Option Tree = λ c. permit k (only c) x in
        let cuts : cut_gaps all (widened b.instances (parts r)) ≡ cut_gaps all (parts r) = cut_widened all b.instances (parts r) (subst (IsApart b.instances) (sym (touch_same k.spread x u)) c) in
        ap (turns_in left all x lo hi) (missed_row r h.1 v d f)
        ∙ (ap (λ l. let qs = live left (at_zero hi (drop_nil l)) in turns_end x (lower_of (has_free left qs) lo) hi (thin (drop_free left qs))) cuts ∙ turns_same k x lo hi r h.2)
    missed_same (Walk n f t c) h w p q = cc

    missed_all : (xs : Trees) → AreNormal k xs → any_walk xs ≡ false → IsApart b.instances (instances_all xs) → IsApart b.numbers (numbers_all xs) → permit_all k b xs ≡ Some (items xs)
    missed_all none h w p q = refl
    missed_all (more x xs) h w p q =
        let (u, v) = or_parts (holds_walk x) (any_walk xs) w in
        let (c, d) = apart_parts b.instances (instances x) (instances_all xs) p in
        let (e, f) = apart_parts b.numbers (numbers x) (numbers_all xs) q in
        λ i. and_then (missed_same x h.0 u c e i) (missed_all xs h.1 v d f i)

    missed_some : (xs : Trees) → AreNormal k xs → any_walk xs ≡ false → IsApart b.instances (instances_all xs) → IsApart b.numbers (numbers_all xs) → permit_some k b xs ≡ items xs
    missed_some none h w p q = refl
    missed_some (more x xs) h w p q =
        let (u, v) = or_parts (holds_walk x) (any_walk xs) w in
        let (c, d) = apart_parts b.instances (instances x) (instances_all xs) p in
        let (e, f) = apart_parts b.numbers (numbers x) (numbers_all xs) q in
        λ i. or_skip (missed_same x h.0 u c e i) (missed_some xs h.1 v d f i)

    missed_row : (r : Row) → IsNormalRow k r → row_walk r ≡ false → IsApart b.instances (instances_row r) → IsApart b.numbers (numbers_row r) → permit_row k b r ≡ Some (widened b.instances (parts r))
    missed_row ends h w p q = refl
    missed_row (gap c r) h w p q = ap (λ o. wider c o b.instances) (missed_row r h w p q)
    missed_row (turn x r) h w p q =
        let (u, v) = or_parts (holds_walk x) (row_walk r) w in
        let (c, d) = apart_parts b.instances (instances x) (instances_row r) p in
        let (e, f) = apart_parts b.numbers (numbers x) (numbers_row r) q in
        λ i. with_turn (missed_same x h.0 u c e i) (missed_row r h.1 v d f i)

-- the test tells it

apart_any : (ms ns : List ℕ) → list_any (has ns) ms ≡ false → IsApart ms ns
apart_any [] ns h = tt
apart_any (m ∷ ms) ns h = let (a, b) = or_parts (has ns m) (list_any (has ns) ms) h in (a, apart_any ms ns b)

lies_left : (r s : Option Span) (n : ℕ) → lies_in r n ≡ true → lies_in (wider_span r s) n ≡ true
lies_left None s n h = cc
lies_left (Some r) None n h = h
lies_left (Some r) (Some s) n h = grind (arith, nat_tests)

lies_right : (r s : Option Span) (n : ℕ) → lies_in s n ≡ true → lies_in (wider_span r s) n ≡ true
lies_right None s n h = h
lies_right (Some r) None n h = cc
lies_right (Some r) (Some s) n h = grind (arith, nat_tests)

lies_itself : (n m : ℕ) → (n == m) ≡ true → lies_in (Some (record { least = n; greatest = n })) m ≡ true
lies_itself n m h = grind (arith, nat_tests)

has_lies : (ns : List ℕ) (n : ℕ) → has ns n ≡ true → lies_in (span_of ns) n ≡ true
has_lies [] n h = cc
has_lies (m ∷ ns) n h = go (m == n) refl (λ there. has_lies ns n there)
  where
    go : (b : Bool) → (m == n) ≡ b → (has ns n ≡ true → lies_in (span_of ns) n ≡ true) → lies_in (span_of (m ∷ ns)) n ≡ true
    go true e rest = lies_left (Some (record { least = m; greatest = m })) (span_of ns) n (lies_itself m n e)
    go false e rest = lies_right (Some (record { least = m; greatest = m })) (span_of ns) n (rest (sym (ap (λ t. t || has ns n) e) ∙ h))

outside : (ns : List ℕ) (n : ℕ) → lies_in (span_of ns) n ≡ false → has ns n ≡ false
outside ns n h = go (has ns n) refl
  where
    go : (b : Bool) → has ns n ≡ b → has ns n ≡ false
    go true e = let bad : true ≡ false = sym (has_lies ns n e) ∙ h in cc
    go false e = e

apart_lies : (ms ns : List ℕ) → list_any (lies_in (span_of ns)) ms ≡ false → IsApart ms ns
apart_lies [] ns h = tt
apart_lies (m ∷ ms) ns h = let (a, b) = or_parts (lies_in (span_of ns) m) (list_any (lies_in (span_of ns)) ms) h in (outside ns m a, apart_lies ms ns b)

-- permission by a block that misses a term in normal form gives the term back
pub permit-misses : (k : NetPermits) (b : BlockValue) (x : Tree) → IsNormal k x → misses b x ≡ true → permit k (block_of b) x ≡ Some x
permit-misses k b x h m =
    let (prefix, last) = and_parts (not (holds_walk x) && not (list_any (has (instances x)) b.instances)) (not (list_any (lies_in (span_of (numbers x))) b.events)) m in
    let (walk, places) = and_parts (not (holds_walk x)) (not (list_any (has (instances x)) b.instances)) prefix in
    missed_same k (block_of b) x h (not-true (holds_walk x) walk) (apart_any b.instances (instances x) (not-true (list_any (has (instances x)) b.instances) places)) (apart_lies b.events (numbers x) (not-true (list_any (lies_in (span_of (numbers x))) b.events) last))

-- and gives each turn of a row that it misses back
module _ (k : NetPermits) (b : Block) where
  turns_missed : (ps : List Part) → EachTurn (IsNormal k) ps → row_walk (row_of ps) ≡ false → IsApart b.instances (instances_row (row_of ps)) → IsApart b.numbers (numbers_row (row_of ps)) → EachTurn (λ x. permit k b x ≡ Some x) ps
  turns_missed [] h w p q = tt
  turns_missed (Gap c ∷ ps) h w p q = turns_missed ps h w p q
  turns_missed (Turn x ∷ ps) h w p q =
      let (u, v) = or_parts (holds_walk x) (row_walk (row_of ps)) w in
      let (c, d) = apart_parts b.instances (instances x) (instances_row (row_of ps)) p in
      let (e, f) = apart_parts b.numbers (numbers x) (numbers_row (row_of ps)) q in
      (missed_same k b x h.0 u c e, turns_missed ps h.1 v d f)

pub row-misses : (k : NetPermits) (b : BlockValue) (ps : List Part) → EachTurn (IsNormal k) ps → row_misses b (row_of ps) ≡ true → EachTurn (λ x. permit k (block_of b) x ≡ Some x) ps
row-misses k b ps h m =
    let r : Row = row_of ps in
    let (prefix, last) = and_parts (not (row_walk r) && not (list_any (has (instances_row r)) b.instances)) (not (list_any (lies_in (span_of (numbers_row r))) b.events)) m in
    let (walk, places) = and_parts (not (row_walk r)) (not (list_any (has (instances_row r)) b.instances)) prefix in
    turns_missed k (block_of b) ps h (not-true (row_walk r) walk) (apart_any b.instances (instances_row r) (not-true (list_any (has (instances_row r)) b.instances) places)) (apart_lies b.events (numbers_row r) (not-true (list_any (lies_in (span_of (numbers_row r))) b.events) last))

pub permit_of_missed : PermitOfMissed
permit_of_missed = record { same = λ w b x h m. permit-misses (permits_of w) b x h m }

has_first : (n : ℕ) (c : List ℕ) → has (n ∷ c) n ≡ true
has_first n c = ap (λ t. t || has c n) (eq-eqb n n refl)

-- no member passes the test where each fails it
all_fail : (p : ℕ → Bool) (c : List ℕ) → ((n : ℕ) → has c n ≡ true → p n ≡ false) → list_any p c ≡ false
all_fail p [] f = refl
all_fail p (m ∷ c) f = λ i. f m (has_first m c) i || all_fail p c (λ n h. f n (later n h)) i
  where
    later : (n : ℕ) → has c n ≡ true → has (m ∷ c) n ≡ true
    later n h = go (m == n) h
      where
        go : (t : Bool) → has c n ≡ true → (t || has c n) ≡ true
        go true q = refl
        go false q = q

not_there : (c : List ℕ) (m n : ℕ) → has c m ≡ false → has c n ≡ true → (m == n) ≡ false
not_there c m n h i = go (m == n) refl
  where
    go : (t : Bool) → (m == n) ≡ t → (m == n) ≡ false
    go true e = let f : m ≡ n = grind (arith, nat_tests) in let g = ap (has c) f in cc
    go false e = e

at_one : (a b c : List ℕ) (n m : ℕ) → has c m ≡ false → has c n ≡ true → has (m ∷ []) n ≡ false
at_one a b c n m h i = ap (λ t. t || false) (not_there c m n h i)

lies_one : (n m : ℕ) → (m == n) ≡ false → lies_in (span_of (m ∷ [])) n ≡ false
lies_one n m h = go (nat_le m n) (nat_le n m) refl refl
  where
    go : (s t : Bool) → nat_le m n ≡ s → nat_le n m ≡ t → (nat_le m n && nat_le n m) ≡ false
    go true true e f = grind (arith, nat_tests)
    go true false e f = λ i. e i && f i
    go false t e f = ap (λ s. s && nat_le n m) e

not_hit : (b : BlockValue) (e : TermEvent) → hits (block_of b) e ≡ false → misses b (Event e) ≡ true
not_hit b e h = go e.also h
  where
    go : (o : Option ℕ) → ((has b.instances e.at || has_some b.instances o) || has b.events e.number) ≡ false
        → ((not false && not (list_any (has (e.at ∷ some_list o)) b.instances)) && not (list_any (lies_in (span_of (e.number ∷ []))) b.events)) ≡ true
    go o q =
        let ends : (has b.instances e.at || has_some b.instances o) ≡ false = (or_parts (has b.instances e.at || has_some b.instances o) (has b.events e.number) q).0 in
        let number : has b.events e.number ≡ false = (or_parts (has b.instances e.at || has_some b.instances o) (has b.events e.number) q).1 in
        let at : has b.instances e.at ≡ false = (or_parts (has b.instances e.at) (has_some b.instances o) ends).0 in
        let also : has_some b.instances o ≡ false = (or_parts (has b.instances e.at) (has_some b.instances o) ends).1 in
        let places = all_fail (has (e.at ∷ some_list o)) b.instances (λ n i. λ j. not_there b.instances e.at n at i j || second o also n i j) in
        let numbers = all_fail (lies_in (span_of (e.number ∷ []))) b.events (λ n i. lies_one n e.number (not_there b.events e.number n number i)) in
        λ i. (not false && not (places i)) && not (numbers i)
      where
        second : (o : Option ℕ) → has_some b.instances o ≡ false → (n : ℕ) → has b.instances n ≡ true → has (some_list o) n ≡ false
        second None a n i = refl
        second (Some m) a n i = ap (λ t. t || false) (not_there b.instances m n a i)

-- an event that isn't missed is hit
hit_else : (k : NetPermits) (b : BlockValue) (e : TermEvent) (t : Bool) → hits (block_of b) e ≡ t → misses b (Event e) ≡ false → unless t (Event e) ≡ None
hit_else k b e true q h = refl
hit_else k b e false q h = let f : misses b (Event e) ≡ true = not_hit b e q in cc

pub hits-unless : (k : NetPermits) (b : BlockValue) (e : TermEvent) → misses b (Event e) ≡ false → permit k (block_of b) (Event e) ≡ None
hits-unless k b e h = hit_else k b e (hits (block_of b) e) refl h

-- an event that a block of another instance and a later event misses
met : misses (record { instances = 5 ∷ []; events = 9 ∷ [] }) (Event (record { number = 2; at = 1; also = None; label = 0 })) ≡ true
met = refl
