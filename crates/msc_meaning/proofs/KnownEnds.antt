-- A level whose called gates have ends that are known.
use Rattle.std.proofs.Common.{◌≡◌, ◌⊎◌, ◌∙◌, ℕ, List, [], ◌∷◌, sym, ap, subst, inl, inr}
use Rattle.msc_base.specs.declared.label.Pair.{Pair}
use Rattle.msc_base.specs.Orders.{first, later}
use Rattle.msc_base.specs.Patterns.{bind}
use Rattle.msc_unfolding.specs.Unfoldings.{Unfolding, level_tie}
use Rattle.msc_meaning.specs.Bodies.{EventNode, level, WovenItems}
use Rattle.msc_meaning.specs.Calls.{Call, calls}
use Rattle.msc_meaning.specs.ChartUnfoldings.{gates_of, OfItems, OfLevel, of_level}
use Rattle.msc_meaning.specs.FarEnds.{Around}
use Rattle.msc_meaning.specs.InnerEvents.{InnerEvent, IsInnerOf, GateEnd, AreEnds}
use Rattle.msc_meaning.specs.MeaningLaws.{end_by, HaveOneEnd}
use Rattle.msc_meaning.specs.Tables.{Table}
use Rattle.msc_meaning.specs.Ties.{ties}
use Rattle.msc_meaning.proofs.MeaningLaws.{ends_are_one}

-- each inner event of the gate is that one
abbrev pub HasNode : Table → WovenItems → Call → EventNode → Type 0
HasNode table held c n = (e : InnerEvent) → IsInnerOf table held c.name c.gate e → e.node ≡ n

one_node : (table : Table) (held : WovenItems) (c : Call) (n : EventNode) → HasNode table held c n
    → (e f : InnerEvent) → IsInnerOf table held c.name c.gate e → IsInnerOf table held c.name c.gate f → end_by c.name c.gate e ≡ end_by c.name c.gate f
one_node table held c n one e f h k = ap (λ (x : EventNode). let r : GateEnd = record { name = c.name; gate = c.gate; at = x.at; kind = x.event.kind } in r) (one e h ∙ sym (one f k))

pub one_call : (table : Table) (held : WovenItems) (c : Call) (n : EventNode) → HasNode table held c n → HaveOneEnd table held (c ∷ [])
one_call table held c n one _ first e f h k = one_node table held c n one e f h k
one_call table held c n one d (later a) e f h k = elim a [ ]

pub two_calls : (table : Table) (held : WovenItems) (c d : Call) (m n : EventNode) → HasNode table held c m → HasNode table held d n → HaveOneEnd table held (c ∷ d ∷ [])
two_calls table held c d m n one other _ first e f h k = one_node table held c m one e f h k
two_calls table held c d m n one other _ (later first) e f h k = one_node table held d n other e f h k
two_calls table held c d m n one other x (later (later a)) e f h k = elim a [ ]

-- where the inner events agree and the items have no unfolding but this one under the known ends, the level has none but the one
pub level_only : (table : Table) (around : Around) (cover : List (List ℕ)) (held : WovenItems) (pairs : List Pair) (known : List GateEnd)
    → HaveOneEnd table held (calls held) → AreEnds table held (calls held) known → (w : Unfolding) → ((v : Unfolding) → OfItems table (gates_of held known) around held v → v ≡ w)
    → {u : Unfolding} → OfLevel table around (level cover held pairs) u → u ≡ bind w (level_tie (ties held pairs (calls held) known))
level_only table around cover held pairs known one are w only (of_level {ends = es} {u = v} h x) = subst P (ends_are_one table held (calls held) one known es are h) known_only v x
  where
    P : List GateEnd → Type 0
    P fs = (o : Unfolding) → OfItems table (gates_of held fs) around held o → bind o (level_tie (ties held pairs (calls held) fs)) ≡ bind w (level_tie (ties held pairs (calls held) known))

    known_only : P known
    known_only o y = ap (λ (z : Unfolding). bind z (level_tie (ties held pairs (calls held) known))) (only o y)

-- the same of two unfoldings
pub level_either : (table : Table) (around : Around) (cover : List (List ℕ)) (held : WovenItems) (pairs : List Pair) (known : List GateEnd)
    → HaveOneEnd table held (calls held) → AreEnds table held (calls held) known → (w x : Unfolding) → ((v : Unfolding) → OfItems table (gates_of held known) around held v → (v ≡ w) ⊎ (v ≡ x))
    → {u : Unfolding} → OfLevel table around (level cover held pairs) u
    → (u ≡ bind w (level_tie (ties held pairs (calls held) known))) ⊎ (u ≡ bind x (level_tie (ties held pairs (calls held) known)))
level_either table around cover held pairs known one are w x only (of_level {ends = es} {u = v} h y) = subst P (ends_are_one table held (calls held) one known es are h) (λ o z. tied o (only o z)) v y
  where
    P : List GateEnd → Type 0
    P fs = (o : Unfolding) → OfItems table (gates_of held fs) around held o
        → (bind o (level_tie (ties held pairs (calls held) fs)) ≡ bind w (level_tie (ties held pairs (calls held) known))) ⊎ (bind o (level_tie (ties held pairs (calls held) fs)) ≡ bind x (level_tie (ties held pairs (calls held) known)))

    tied : (o : Unfolding) → (o ≡ w) ⊎ (o ≡ x)
        → (bind o (level_tie (ties held pairs (calls held) known)) ≡ bind w (level_tie (ties held pairs (calls held) known))) ⊎ (bind o (level_tie (ties held pairs (calls held) known)) ≡ bind x (level_tie (ties held pairs (calls held) known)))
    tied o (inl e) = inl (ap (λ (z : Unfolding). bind z (level_tie (ties held pairs (calls held) known))) e)
    tied o (inr e) = inr (ap (λ (z : Unfolding). bind z (level_tie (ties held pairs (calls held) known))) e)
