-- Whether one of some terms may end.
use Rattle.std.specs.Prelude.{ℕ, ◌+◌, ◌≡◌, ◌≤◌, ◌↔◌, Bool, true, false, IsTrue, List, Some, slice_get, take, length, refl}
use Rattle.std.proofs.Common.{sym, ◌∙◌, subst, inl, inr}
use Rattle.std.proofs.lemmas.List.{take_all}
use Rattle.std.proofs.lemmas.Bool.{true≢false}
use Rattle.list_facts.proofs.Members.{at_among, take_among}
use Rattle.term_tables.specs.NetValues.{NetsValue}
use Rattle.chart_term.specs.Tables.{terms_over}
use Rattle.chart_term.specs.Terms.{Tree}
use Rattle.term_laws.specs.Taking.{MayEnd}
use Rattle.term_step.proofs.AllAfter.{each_item}
use Rattle.trace_judge.specs.Sets.{HasEnding}

pub start_ends : (v : NetsValue) (xs : List Tree) → HasEnding v (take 0 xs) → ⊥
start_ends v xs h = h.held

pub this_ends : (v : NetsValue) (xs : List Tree) (i : ℕ) (x : Tree) (b : Bool) → slice_get xs i ≡ Some x → (IsTrue b ↔ MayEnd (terms_over v.tables) x) → b ≡ true → IsTrue true ↔ HasEnding v xs
this_ends v xs i x b e h t = (λ u. record { term = x; held = at_among xs i x e; ends = h.0 t }, λ u. refl)

pub more_ends : (v : NetsValue) (xs : List Tree) (i : ℕ) (x : Tree) (b : Bool) → slice_get xs i ≡ Some x → (IsTrue b ↔ MayEnd (terms_over v.tables) x) → b ≡ false → (HasEnding v (take i xs) → ⊥) → HasEnding v (take (i + 1) xs) → ⊥
more_ends v xs i x b e h f g k = elim (take_among xs i x k.term e k.held) [
  | inl q ↦ true≢false (sym (h.1 (subst (MayEnd (terms_over v.tables)) q k.ends)) ∙ f)
  | inr j ↦ g (record { term = k.term; held = j; ends = k.ends })
]

pub all_end : (v : NetsValue) (xs : List Tree) (i : ℕ) → length xs ≤ i → (HasEnding v (take i xs) → ⊥) → IsTrue false ↔ HasEnding v xs
all_end v xs i l f = (λ b. absurd (true≢false (sym b)), λ h. absurd (f (subst (HasEnding v) (sym (take_all i xs l)) h)))

pub ruleset ending = (each_item, start_ends, this_ends, more_ends, all_end)
