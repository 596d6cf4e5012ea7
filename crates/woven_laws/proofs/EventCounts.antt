-- How many inner events there are, by the branches that have them.
use Rattle.std.proofs.Common.{◌≡◌, ◌≤◌, ℕ, ◌+◌, Bool, true, false, List, [], ◌∷◌, ◌++◌, length, refl, arith}
use Rattle.msc_tree.specs.declared.reference.InlineForm.{InlineForm}
use Rattle.msc_tree.specs.declared.reference.InlineForm.TheVariants as inline
use Rattle.msc_meaning.specs.Bodies.{WovenItem, Single, Coregion, Inline, Refer}
use Rattle.msc_meaning.specs.InnerEvents.{InnerEvent}
use Rattle.gate_ends.specs.FoundEnds.{GateEvents, no_event, an_event, both, either, in_loop, beside, event_count, listed, operand_beside, seen_in, these_if, turned, unless}

length_on : (a b : List InnerEvent) → length (a ++ b) ≡ length a + length b
length_on [] b = omega arith
length_on (x ∷ a) b = omega (arith, length_on a b)

pub both_count : (a b : GateEvents) → event_count (both a b) ≡ event_count a + event_count b
both_count a b = length_on (listed a) (listed b)

pub either_count : (a b : GateEvents) → event_count (either a b) ≡ event_count a + event_count b
either_count a b = length_on (listed a) (listed b)

pub beside_count : (x : WovenItem) (a b : GateEvents) → event_count (beside x a b) ≡ event_count a + event_count b
beside_count (Single n) a b = both_count a b
beside_count (Coregion ns) a b = both_count a b
beside_count (Inline inline.Alt part operands) a b = both_count a b
beside_count (Inline inline.Opt part operands) a b = both_count a b
beside_count (Inline inline.Exc part operands) a b = either_count a b
beside_count (Inline inline.Par part operands) a b = both_count a b
beside_count (Inline inline.Loop part operands) a b = both_count a b
beside_count (Refer part) a b = both_count a b

pub operand_count : (form : InlineForm) (a b : GateEvents) → event_count (operand_beside form a b) ≡ event_count a + event_count b
operand_count inline.Alt a b = either_count a b
operand_count inline.Opt a b = either_count a b
operand_count inline.Exc a b = either_count a b
operand_count inline.Par a b = both_count a b
operand_count inline.Loop a b = either_count a b

pub turned_count : (form : InlineForm) (a : GateEvents) → event_count (turned form a) ≡ event_count a
turned_count inline.Alt a = refl
turned_count inline.Opt a = refl
turned_count inline.Exc a = refl
turned_count inline.Par a = refl
turned_count inline.Loop a = refl

-- fewer stay fewer
pub if_low : (b : Bool) (a c : GateEvents) → event_count a ≤ event_count c → event_count (these_if b a) ≤ event_count (these_if b c)
if_low true a c h = h
if_low false a c h = omega arith

-- and where more are left out
pub unless_low : (b d : Bool) (a c : GateEvents) → (d ≡ true → b ≡ true) → event_count a ≤ event_count c → event_count (unless b a) ≤ event_count (unless d c)
unless_low true d a c f h = omega arith
unless_low false true a c f h = let no : false ≡ true = f refl in absurd cc
unless_low false false a c f h = h

-- seen from another chart they are as many
seen_on : (name : List ℕ) (a b c d : GateEvents) → event_count a ≡ event_count c → event_count b ≡ event_count d → length (listed a ++ listed b) ≡ length (listed c ++ listed d)
seen_on name a b c d e f = omega (arith, length_on (listed a) (listed b), length_on (listed c) (listed d), e, f)

pub seen_count : (name : List ℕ) (a : GateEvents) → event_count (seen_in name a) ≡ event_count a
seen_count name no_event = refl
seen_count name (an_event e) = refl
seen_count name (both a b) = seen_on name (seen_in name a) (seen_in name b) a b (seen_count name a) (seen_count name b)
seen_count name (either a b) = seen_on name (seen_in name a) (seen_in name b) a b (seen_count name a) (seen_count name b)
seen_count name (in_loop a) = seen_count name a
