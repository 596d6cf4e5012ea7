-- Words that were found: more and more of them, each once.
use Rattle.std.specs.HashSet.{contains}
use Rattle.std.specs.Prelude.{ℕ, ◌+◌, ◌-◌, ◌*◌, ◌/◌, ◌%◌, ◌^◌, ◌<◌, ◌≤◌, ◌⊎◌, Bool, true, false, List, [], ◌∷◌, ◌++◌, ◌≡◌, Some, slice_get, slice_index_or, take, length, nat_eq, nat_le, refl}
use Rattle.std.proofs.Common.{ap, sym, ◌∙◌, subst, arith, cond, inl, inr}
use Rattle.std.proofs.lemmas.Bool.Decides.{nat_tests}
use Rattle.std.proofs.lemmas.List.{take_all}
use Rattle.std.proofs.lemmas.Nat.{one_shl}
use Rattle.std.proofs.lemmas.Option.{slice_get-get_or}
use native.Mathlib.Nat.{div-eq_of_lt}
use Rattle.chart_term.specs.TermPatterns.{Both}
use Rattle.msc_base.specs.Lists.{AreDifferent, IsAmong}
use Rattle.list_facts.proofs.Members.{among_snoc, snoc_among, different_snoc, at_among, take_among, among_take, among_first}
use Rattle.term_sets.specs.Words.{AddsWord, AreWords, IsEachLeft, IsWordLeft, IsWithout, TakesEach}
use Rattle.term_sets.specs.declared.words.Words.{Words}

pub false_true : {A : Type 0} → false ≡ true → A
false_true e = cc

pub item_of : (xs : List ℕ) (i : ℕ) → i < length xs → slice_get xs i ≡ Some (slice_index_or xs i 0)
item_of xs i l = slice_get-get_or xs i 0 l

-- a word is put in a table
in_table : (w v : ℕ) (old new : Bool) → new ≡ cond (nat_eq w v) true old → new ≡ true → (old ≡ true) ⊎ (v ≡ w)
in_table w v old new e h = go (nat_eq w v) refl
  where
    go : (b : Bool) → nat_eq w v ≡ b → (old ≡ true) ⊎ (v ≡ w)
    go true q = inr (sym (grind (arith, nat_tests, q)))
    go false q = inl (ap (λ c. cond c true old) (sym q) ∙ (sym e ∙ h))

table_has : (w v : ℕ) (old new : Bool) → new ≡ cond (nat_eq w v) true old → (old ≡ true) ⊎ (v ≡ w) → new ≡ true
table_has w v old new e h = e ∙ go (nat_eq w v) refl h
  where
    go : (b : Bool) → nat_eq w v ≡ b → (old ≡ true) ⊎ (v ≡ w) → cond b true old ≡ true
    go true q i = refl
    go false q (inl o) = o
    go false q (inr s) = let same : nat_eq w v ≡ true = grind (arith, nat_tests, s) in false_true (sym q ∙ same)

-- no words
pub no_words : (f : Words) → f.list.items ≡ [] → ((w : ℕ) → contains nat_eq f.seen w ≡ false) → AreWords f
no_words f e k = record {
  different = subst (λ (xs : List ℕ). AreDifferent xs) (sym e) tt;
  seen = λ w. record {
    to = λ h. false_true (sym (k w) ∙ h);
    from = λ i. absurd (subst (λ (xs : List ℕ). IsAmong xs w) e i);
  };
}

-- a new word
pub added_new : (old new : Words) (w : ℕ) (all : Bool) → AreWords old → contains nat_eq old.seen w ≡ false → ((v : ℕ) → contains nat_eq new.seen v ≡ cond (nat_eq w v) true (contains nat_eq old.seen v))
    → new.list.items ≡ old.list.items ++ w ∷ [] → new.room ≡ old.room → all ≡ nat_le (length new.list.items) new.room → AddsWord w old new all
added_new old new w all h free seen items room test = record {
  words = record {
    different = subst (λ (xs : List ℕ). AreDifferent xs) (sym items) (different_snoc old.list.items w h.different (λ i. false_true (sym free ∙ (h.seen w).from i)));
    seen = λ v. record { to = λ t. (has v).from (holds v t); from = λ i. is_in v ((has v).to i) };
  };
  room = room;
  has = has;
  bounded = record {
    within = λ a. let b : nat_le (length new.list.items) new.room ≡ true = sym test ∙ a in grind (arith, nat_tests, b);
    beyond = λ a. let b : nat_le (length new.list.items) new.room ≡ false = sym test ∙ a in grind (arith, nat_tests, b);
  };
}
  where
    has : (v : ℕ) → Both (IsAmong new.list.items v) (IsAmong old.list.items v ⊎ (v ≡ w))
    has v = record {
      to = λ i. among_snoc old.list.items w v (subst (λ (xs : List ℕ). IsAmong xs v) items i);
      from = λ i. subst (λ (xs : List ℕ). IsAmong xs v) (sym items) (snoc_among old.list.items w v i);
    }

    holds : (v : ℕ) → contains nat_eq new.seen v ≡ true → IsAmong old.list.items v ⊎ (v ≡ w)
    holds v t = elim (in_table w v (contains nat_eq old.seen v) (contains nat_eq new.seen v) (seen v) t) [ inl o ↦ inl ((h.seen v).to o) | inr e ↦ inr e ]

    is_in : (v : ℕ) → IsAmong old.list.items v ⊎ (v ≡ w) → contains nat_eq new.seen v ≡ true
    is_in v (inl i) = table_has w v (contains nat_eq old.seen v) (contains nat_eq new.seen v) (seen v) (inl ((h.seen v).from i))
    is_in v (inr e) = table_has w v (contains nat_eq old.seen v) (contains nat_eq new.seen v) (seen v) (inr e)

-- a word that was found before
pub added_met : (old new : Words) (w : ℕ) → AreWords old → length old.list.items ≤ old.room → contains nat_eq old.seen w ≡ true → ((v : ℕ) → contains nat_eq new.seen v ≡ cond (nat_eq w v) true (contains nat_eq old.seen v))
    → new.list.items ≡ old.list.items → new.room ≡ old.room → AddsWord w old new true
added_met old new w h within met seen items room = record {
  words = record {
    different = subst (λ (xs : List ℕ). AreDifferent xs) (sym items) h.different;
    seen = λ v. record { to = λ t. stays v ((h.seen v).to (was v t)); from = λ i. table_has w v (contains nat_eq old.seen v) (contains nat_eq new.seen v) (seen v) (inl ((h.seen v).from (subst (λ (xs : List ℕ). IsAmong xs v) items i))) };
  };
  room = room;
  has = λ v. record { to = λ i. inl (subst (λ (xs : List ℕ). IsAmong xs v) items i); from = λ i. stays v (either v i) };
  bounded = record { within = λ a. let f = ap (λ (xs : List ℕ). length xs) items in omega (arith, f, room, within); beyond = λ a. false_true (sym a) };
}
  where
    there : IsAmong old.list.items w
    there = (h.seen w).to met

    stays : (v : ℕ) → IsAmong old.list.items v → IsAmong new.list.items v
    stays v i = subst (λ (xs : List ℕ). IsAmong xs v) (sym items) i

    either : (v : ℕ) → IsAmong old.list.items v ⊎ (v ≡ w) → IsAmong old.list.items v
    either v (inl i) = i
    either v (inr e) = subst (λ (u : ℕ). IsAmong old.list.items u) (sym e) there

    was : (v : ℕ) → contains nat_eq new.seen v ≡ true → contains nat_eq old.seen v ≡ true
    was v t = elim (in_table w v (contains nat_eq old.seen v) (contains nat_eq new.seen v) (seen v) t) [
      | inl o ↦ o
      | inr e ↦ subst (λ (u : ℕ). contains nat_eq old.seen u ≡ true) (sym e) met
    ]

-- a word that has a bit isn't below it
pub bit_within : (w b : ℕ) → b < 64 → (w / 2 ^ b) % 2 ≡ 1 → (1 * 2 ^ b) % 2 ^ 64 ≤ w
bit_within w b l held = subst (λ (n : ℕ). n ≤ w) (sym (one_shl b 64 l)) (go (nat_le (2 ^ b) w) refl)
  where
    go : (t : Bool) → nat_le (2 ^ b) w ≡ t → 2 ^ b ≤ w
    go true e = grind (arith, nat_tests, e)
    go false e =
        let below : w < 2 ^ b = grind (arith, nat_tests, e) in
        let zero_bit : (w / 2 ^ b) % 2 ≡ 0 = ap (λ (n : ℕ). n % 2) (div-eq_of_lt below) in
        absurd (omega (arith, held, zero_bit))

-- what is left of a word without its bit
pub left_of_bit : (w b : ℕ) → b < 64 → (w / 2 ^ b) % 2 ≡ 1 → w ≡ (w - (1 * 2 ^ b) % 2 ^ 64) + 2 ^ b
left_of_bit w b l held = let within = bit_within w b l held in let same = one_shl b 64 l in omega (arith, within, same)

-- the word without bits of a list
without_some : (bits : List ℕ) (i w v : ℕ) → IsWithout (take i bits) w v → IsWithout bits w v
without_some bits i w v h = record { bit = h.bit; among = among_first bits i h.bit h.among; held = h.held; left = h.left }

module _ (bits : List ℕ) (i b w : ℕ) (at : slice_get bits i ≡ Some b) where
  without_on : (v : ℕ) → IsWithout (take i bits) w v → IsWithout (take (i + 1) bits) w v
  without_on v h = record { bit = h.bit; among = among_take bits i b h.bit at (inr h.among); held = h.held; left = h.left }

  without_this : (u : ℕ) → (w / 2 ^ b) % 2 ≡ 1 → w ≡ u + 2 ^ b → IsWithout (take (i + 1) bits) w u
  without_this u held left = record { bit = b; among = among_take bits i b b at (inl refl); held = held; left = left }

  -- the word has this bit, and this is it without
  record IsThis (v : ℕ) : Type 0 where
    pub held : (w / 2 ^ b) % 2 ≡ 1
    pub left : w ≡ v + 2 ^ b

  without_either : (v : ℕ) → IsWithout (take (i + 1) bits) w v → IsThis v ⊎ IsWithout (take i bits) w v
  without_either v h = elim (take_among bits i b h.bit at h.among) [
    | inl e ↦ inl (record { held = subst (λ (n : ℕ). (w / 2 ^ n) % 2 ≡ 1) e h.held; left = subst (λ (n : ℕ). w ≡ v + 2 ^ n) e h.left })
    | inr j ↦ inr (record { bit = h.bit; among = j; held = h.held; left = h.left })
  ]

  -- a bit that the word doesn't have
  pub takes_none : (old mid : Words) → ((w / 2 ^ b) % 2 ≡ 1 → ⊥) → TakesEach (take i bits) w old mid true → TakesEach (take (i + 1) bits) w old mid true
  takes_none old mid free h = record {
    words = h.words;
    room = h.room;
    kept = h.kept;
    each = λ v j. elim (h.each v j) [ inl o ↦ inl o | inr k ↦ inr (without_on v k) ];
    whole = λ t v k. elim (without_either v k) [ inl this ↦ absurd (free this.held) | inr k ↦ h.whole t v k ];
    bounded = h.bounded;
  }

  -- a bit that it has
  pub takes_one : (old mid new : Words) (u : ℕ) (all : Bool) → (w / 2 ^ b) % 2 ≡ 1 → w ≡ u + 2 ^ b → TakesEach (take i bits) w old mid true → AddsWord u mid new all → TakesEach (take (i + 1) bits) w old new all
  takes_one old mid new u all held left h a = record {
    words = a.words;
    room = a.room ∙ h.room;
    kept = λ v j. (a.has v).from (inl (h.kept v j));
    each = λ v j. each_on v ((a.has v).to j);
    whole = λ t v k. (a.has v).from (elim (without_either v k) [ inl this ↦ inr (same v this.left) | inr k ↦ inl (h.whole refl v k) ]);
    bounded = a.bounded;
  }
    where
      same : (v : ℕ) → w ≡ v + 2 ^ b → v ≡ u
      same v e = omega (arith, e, left)

      each_on : (v : ℕ) → IsAmong mid.list.items v ⊎ (v ≡ u) → IsAmong old.list.items v ⊎ IsWithout (take (i + 1) bits) w v
      each_on v (inl j) = elim (h.each v j) [ inl o ↦ inl o | inr k ↦ inr (without_on v k) ]
      each_on v (inr e) = inr (without_this v held (left ∙ ap (λ (n : ℕ). n + 2 ^ b) (sym e)))

-- one more bit of a list of bits below 64
module _ (bits : List ℕ) (below : (bit : ℕ) → IsAmong bits bit → bit < 64) (i : ℕ) (within : i < length bits) where
  pub bit_below : slice_index_or bits i 0 < 64
  bit_below = below (slice_index_or bits i 0) (at_among bits i (slice_index_or bits i 0) (item_of bits i within))

  module _ (w : ℕ) (held : (w / 2 ^ slice_index_or bits i 0) % 2 ≡ 1) where
    pub takes_bit : (old mid new : Words) (all : Bool) → TakesEach (take i bits) w old mid true → AddsWord (w - (1 * 2 ^ slice_index_or bits i 0) % 2 ^ 64) mid new all → TakesEach (take (i + 1) bits) w old new all
    takes_bit old mid new all h a = takes_one bits i (slice_index_or bits i 0) w (item_of bits i within) old mid new (w - (1 * 2 ^ slice_index_or bits i 0) % 2 ^ 64) all held (left_of_bit w (slice_index_or bits i 0) bit_below held) h a

  pub takes_over : (w : ℕ) (old mid : Words) → ((w / 2 ^ slice_index_or bits i 0) % 2 ≡ 1 → ⊥) → TakesEach (take i bits) w old mid true → TakesEach (take (i + 1) bits) w old mid true
  takes_over w old mid free h = takes_none bits i (slice_index_or bits i 0) w (item_of bits i within) old mid free h

pub takes_start : (w : ℕ) (old : Words) → AreWords old → length old.list.items ≤ old.room → TakesEach [] w old old true
takes_start w old h within = record {
  words = h;
  room = refl;
  kept = λ v j. j;
  each = λ v j. inl j;
  whole = λ t v k. absurd k.among;
  bounded = record { within = λ t. within; beyond = λ e. false_true (sym e) };
}

pub takes_cut : (bits : List ℕ) (i w : ℕ) (old new : Words) → TakesEach (take i bits) w old new false → TakesEach bits w old new false
takes_cut bits i w old new h = record {
  words = h.words;
  room = h.room;
  kept = h.kept;
  each = λ v j. elim (h.each v j) [ inl o ↦ inl o | inr k ↦ inr (without_some bits i w v k) ];
  whole = λ t. false_true t;
  bounded = h.bounded;
}

pub takes_end : (bits : List ℕ) (i w : ℕ) (old new : Words) → length bits ≤ i → TakesEach (take i bits) w old new true → TakesEach bits w old new true
takes_end bits i w old new l h = subst (λ (bs : List ℕ). TakesEach bs w old new true) (take_all i bits l) h

-- words left of more and more words
left_some : (bits words : List ℕ) (i v : ℕ) → IsWordLeft bits (take i words) v → IsWordLeft bits words v
left_some bits words i v h = record { word = h.word; among = among_first words i h.word h.among; without = h.without }

pub all_start : (bits : List ℕ) (old : Words) → AreWords old → old.list.items ≡ [] → IsEachLeft bits [] old old true
all_start bits old h e = record {
  are = h;
  room = refl;
  each = λ v j. absurd (subst (λ (xs : List ℕ). IsAmong xs v) e j);
  whole = λ t v k. absurd k.among;
  bounded = record { within = λ t. let f = ap (λ (xs : List ℕ). length xs) e in omega (arith, f); beyond = λ q. false_true (sym q) };
}

module _ (bits words : List ℕ) (i x : ℕ) (at : slice_get words i ≡ Some x) where
  left_on : (v : ℕ) → IsWordLeft bits (take i words) v → IsWordLeft bits (take (i + 1) words) v
  left_on v h = record { word = h.word; among = among_take words i x h.word at (inr h.among); without = h.without }

  left_this : (v : ℕ) → IsWithout bits x v → IsWordLeft bits (take (i + 1) words) v
  left_this v h = record { word = x; among = among_take words i x x at (inl refl); without = h }

  left_either : (v : ℕ) → IsWordLeft bits (take (i + 1) words) v → IsWithout bits x v ⊎ IsWordLeft bits (take i words) v
  left_either v h = elim (take_among words i x h.word at h.among) [
    | inl e ↦ inl (subst (λ (w : ℕ). IsWithout bits w v) e h.without)
    | inr j ↦ inr (record { word = h.word; among = j; without = h.without })
  ]

  pub all_next : (old mid new : Words) (all : Bool) → IsEachLeft bits (take i words) old mid true → TakesEach bits x mid new all → IsEachLeft bits (take (i + 1) words) old new all
  all_next old mid new all h a = record {
    are = a.words;
    room = a.room ∙ h.room;
    each = λ v j. elim (a.each v j) [ inl m ↦ left_on v (h.each v m) | inr k ↦ left_this v k ];
    whole = λ t v k. elim (left_either v k) [ inl this ↦ a.whole t v this | inr k ↦ a.kept v (h.whole refl v k) ];
    bounded = a.bounded;
  }

pub all_cut : (bits words : List ℕ) (i : ℕ) (old new : Words) → IsEachLeft bits (take i words) old new false → IsEachLeft bits words old new false
all_cut bits words i old new h = record {
  are = h.are;
  room = h.room;
  each = λ v j. left_some bits words i v (h.each v j);
  whole = λ t. false_true t;
  bounded = h.bounded;
}

pub all_end : (bits words : List ℕ) (i : ℕ) (old new : Words) → length words ≤ i → IsEachLeft bits (take i words) old new true → IsEachLeft bits words old new true
all_end bits words i old new l h = subst (λ (ws : List ℕ). IsEachLeft bits ws old new true) (take_all i words l) h

pub ruleset gaining = (no_words, takes_start, takes_end, all_start, all_end)
