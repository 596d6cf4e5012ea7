-- What the code makes: sound terms whose events stand where their labels do.
use Rattle.std.specs.Prelude.{ℕ, ◌+◌, ◌≡◌, ◌<◌, List, [], ◌∷◌, ◌++◌, Option, Some, None, length, refl}
use Rattle.std.proofs.Common.{ap, sym, ◌∙◌, subst}
use Rattle.msc_base.specs.Patterns.{Mode, par, seq}
use Rattle.msc_base.specs.declared.label.Pair.{Pair}
use Rattle.term_tables.specs.NetValues.{NetsValue}
use Rattle.chart_term.specs.NormalForms.{join_all, choice_of, tie_of}
use Rattle.chart_term.specs.Properties.{Each}
use Rattle.chart_term.specs.TermMeanings.{UpTo}
use Rattle.chart_term.specs.Tables.{Tables}
use Rattle.chart_term.specs.Terms.{Tree, Nil, Event}
use Rattle.chart_term.specs.Views.{pairs_of}
use Rattle.term_permission.specs.Fresh.{IsFreshLoop}
use Rattle.term_permission.specs.Ready.{IsReady, AreReadyTables}
use Rattle.term_permission.proofs.SoundReady.{ready_by_soundness}
use Rattle.term_laws.specs.FullSoundness.{IsSoundNode, IsFullySound, MustHave}
use Rattle.term_laws.specs.Placing.{HaveOnePlace}
use Rattle.term_laws.proofs.Keeping.{at_some}
use Rattle.term_laws.proofs.SoundForms.{constructors_keep_soundness}
use Rattle.term_laws.proofs.TidyTables.{each_map}
use Rattle.trace_judge.specs.Sets.{IsSoundFor}
use Rattle.term_bench.specs.Charts.{labels, place, places, IsChart, event, message, answer, with_answer}
use Rattle.term_bench.proofs.Placed.{Placed, join_placed, choice_placed, loop_placed, message_placed, exchange_placed, ordered_placed}
use Rattle.term_bench.proofs.Sound.{Sound, event_sound, first_sound, third_sound, exchange_sound, ordered_sound}

pub one_pair : (none some : List Pair) (a b : ℕ) (p : Pair) → none ≡ [] → some ≡ none ++ p ∷ [] → p.first ≡ a → p.second ≡ b → pairs_of some ≡ (a, b) ∷ []
one_pair none some a b p q r s t = ap pairs_of (r ∙ ap (λ l. l ++ p ∷ []) q) ∙ (λ i. (s i, t i) ∷ [])

pub is_answer : (x a b : Tree) (xs : List Tree) → xs ≡ a ∷ b ∷ [] → a ≡ message 2 1 0 → b ≡ message 4 1 0 → choice_of xs ≡ Some x → x ≡ answer
is_answer x a b xs p q r e =
    let i : xs ≡ message 2 1 0 ∷ message 4 1 0 ∷ [] = p ∙ (λ i. q i ∷ r i ∷ []) in
    at_some (λ y. y ≡ answer) (choice_of (message 2 1 0 ∷ message 4 1 0 ∷ [])) x (ap choice_of (sym i) ∙ e) refl

pub chart_message : (x : Tree) → x ≡ message 0 0 1 → IsChart x
chart_message x q = subst IsChart (sym q) (record { sound = first_sound; placed = message_placed 0 0 1 refl refl })

pub chart_refusal : (x : Tree) → x ≡ message 4 1 0 → IsChart x
chart_refusal x q = subst IsChart (sym q) (record { sound = third_sound; placed = message_placed 4 1 0 refl refl })

-- a tie around three parts
tied_three : (m : Mode) (x y a b c k l n : Tree) (xs : List Tree) (p : List (ℕ × ℕ)) → xs ≡ a ∷ b ∷ c ∷ [] → a ≡ k → b ≡ l → c ≡ n → y ≡ join_all m xs → x ≡ tie_of y p
    → x ≡ tie_of (join_all m (k ∷ l ∷ n ∷ [])) p
tied_three m x y a b c k l n xs p q r s t u v = v ∙ ap (λ z. tie_of z p) (u ∙ ap (join_all m) (q ∙ (λ i. r i ∷ s i ∷ t i ∷ [])))

pub chart_exchange : (x y a b c : Tree) (xs : List Tree) → xs ≡ a ∷ b ∷ c ∷ [] → a ≡ Event (event 0 0 0) → b ≡ Event (event 1 1 1) → c ≡ answer
    → y ≡ join_all seq xs → x ≡ tie_of y ((0, 1) ∷ []) → IsChart x
chart_exchange x y a b c xs q r s t u v = subst IsChart (sym (tied_three seq x y a b c _ _ _ xs ((0, 1) ∷ []) q r s t u v)) (record { sound = exchange_sound; placed = exchange_placed })

pub chart_ordered : (x y a b c : Tree) (xs : List Tree) → xs ≡ a ∷ b ∷ c ∷ [] → a ≡ Event (event 0 0 6) → b ≡ Event (event 1 0 6) → c ≡ Event (event 2 0 7)
    → y ≡ join_all par xs → x ≡ tie_of y ((1, 2) ∷ []) → IsChart x
chart_ordered x y a b c xs q r s t u v = subst IsChart (sym (tied_three par x y a b c _ _ _ xs ((1, 2) ∷ []) q r s t u v)) (record { sound = ordered_sound; placed = ordered_placed })

pub tied_answer : (n : ℕ) (x y z a b : Tree) (xs : List Tree) → xs ≡ z ∷ a ∷ b ∷ [] → a ≡ Event (event n 1 4) → b ≡ Event (event (n + 1) 0 5) → y ≡ join_all seq xs → x ≡ tie_of y ((n, n + 1) ∷ []) → x ≡ with_answer n z
tied_answer n x y z a b xs q s t u v = tied_three seq x y z a b z _ _ xs ((n, n + 1) ∷ []) q refl s t u v

pub chart_event : (x : Tree) (n i a : ℕ) → x ≡ Event (event n i a) → a < labels → place a ≡ i → IsChart x
chart_event x n i a q l p = subst IsChart (sym q) (record { sound = event_sound (event n i a) l; placed = ap (λ j. j ∷ []) p })

pub chart_nil : (x : Tree) → x ≡ Nil → IsChart x
chart_nil x q = subst IsChart (sym q) (record { sound = constructors_keep_soundness.join labels [] seq [] tt tt; placed = tt })

pub chart_two : (xs : List Tree) (x y : Tree) → xs ≡ x ∷ y ∷ [] → IsChart x → IsChart y → Each IsChart xs
chart_two xs x y q h i = subst (Each IsChart) (sym q) (h, (i, tt))

pub chart_three : (xs : List Tree) (x y z : Tree) → xs ≡ x ∷ y ∷ z ∷ [] → IsChart x → IsChart y → IsChart z → Each IsChart xs
chart_three xs x y z q h i j = subst (Each IsChart) (sym q) (h, (i, (j, tt)))

pub chart_join : (m : Mode) (x : Tree) (xs : List Tree) → x ≡ join_all m xs → Each IsChart xs → IsChart x
chart_join m x xs q h = subst IsChart (sym q) (record {
  sound = constructors_keep_soundness.join labels [] m xs tt (each_map IsChart Sound (λ y c. c.sound) xs h);
  placed = join_placed m xs (each_map IsChart Placed (λ y c. c.placed) xs h);
})

pub chart_choice : (x a b : Tree) (xs : List Tree) → xs ≡ a ∷ b ∷ [] → choice_of xs ≡ Some x → IsChart a → IsChart b → IsChart x
chart_choice x a b xs p e h i =
    let is : choice_of (a ∷ b ∷ []) ≡ Some x = ap choice_of (sym p) ∙ e in
    record {
      sound = go (choice_of (a ∷ b ∷ [])) is (constructors_keep_soundness.choice labels [] a (b ∷ []) tt (h.sound, (i.sound, tt)));
      placed = choice_placed x (a ∷ b ∷ []) is (h.placed, (i.placed, tt));
    }
  where
    go : (r : Option Tree) → r ≡ Some x → MustHave Sound r → Sound x
    go None q j = absurd j
    go (Some y) q j = at_some Sound (Some y) x q j

pub each_none : (xs : List Tree) → xs ≡ [] → Each IsChart xs
each_none xs q = subst (Each IsChart) (sym q) tt

pub each_more : (xs ys : List Tree) (x : Tree) → ys ≡ xs ++ x ∷ [] → Each IsChart xs → IsChart x → Each IsChart ys
each_more xs ys x q h i = subst (Each IsChart) (sym q) (go xs h)
  where
    go : (zs : List Tree) → Each IsChart zs → Each IsChart (zs ++ x ∷ [])
    go [] j = (i, tt)
    go (z ∷ zs) j = (j.0, go zs j.1)

pub ready_tables : (w : Tables) → w ≡ [] → AreReadyTables w
ready_tables w q = subst AreReadyTables (sym q) tt

pub ready_body : (w : Tables) (x : Tree) → w ≡ [] → IsChart x → IsReady w x
ready_body w x q h = subst (λ (v : Tables). IsReady v x) (sym q) (ready_by_soundness.term labels [] x (record { nets = tt; term = h.sound.sound }))

pub chart_loop : (w : Tables) (x y : Tree) (hi : Option ℕ) → w ≡ [] → IsChart x → UpTo hi 1 → IsFreshLoop w x 1 hi y → IsChart y
chart_loop w x y hi q h u f = record {
  sound = subst (MustHave Sound) (g.loop u) (constructors_keep_soundness.loop labels [] x 1 hi tt h.sound u);
  placed = loop_placed x y hi (g.loop u) h.placed;
}
  where
    g : IsFreshLoop [] x 1 hi y
    g = subst (λ (v : Tables). IsFreshLoop v x 1 hi y) q f

-- over tables of so many labels and no net
pub sound_here : (v : NetsValue) (x : Tree) (n : ℕ) → v.tables ≡ [] → length v.labels ≡ n → IsSoundNode n [] x → HaveOnePlace [] x → IsSoundFor v x
sound_here v x n t l h p = record {
  full = subst (λ (w : Tables). IsFullySound (length v.labels) w x) (sym t) (subst (λ (m : ℕ). IsFullySound m [] x) (sym l) (record { nets = tt; term = h.sound }));
  placed = subst (λ (w : Tables). HaveOnePlace w x) (sym t) p;
}

pub chart_here : (v : NetsValue) (x : Tree) → v.tables ≡ [] → length v.labels ≡ labels → IsChart x → IsSoundFor v x
chart_here v x t l h = sound_here v x labels t l h.sound (record { places = places; nets = tt; term = h.placed })

-- what the functions of the charts cite
pub ruleset tie_rules = (one_pair)

pub ruleset answer_rules = (is_answer)

pub ruleset loop_rules = (ready_tables, ready_body, chart_loop)

pub ruleset list_rules = (each_none, each_more)

pub ruleset table_rules = (chart_here)

pub ruleset statement_table_rules = (sound_here)
