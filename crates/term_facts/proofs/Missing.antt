-- Facts that tell that a block hits nothing.
use Rattle.std.proofs.Common.{◌≡◌, ℕ, Bool, true, false, ◌&&◌, not, List, [], ◌∷◌, refl, ap, ap₂, sym, ◌∙◌, Some, None}
use Rattle.std.specs.List.{list_any}
use Rattle.bit_sets.specs.Blocks.{BlockValue, share}
use Rattle.term_facts.specs.declared.facts.Facts.{Facts}
use Rattle.term_facts.specs.declared.facts.Ranges.{Ranges}
use Rattle.term_facts.specs.NodeFacts.{facts_miss, lies_in, numbers_in}

lies_in_none : (ns : List ℕ) → list_any (lies_in None) ns ≡ false
lies_in_none [] = refl
lies_in_none (n ∷ ns) = lies_in_none ns

pub miss_none : (b : BlockValue) (f : Facts) → f.holds_walk ≡ false → share b.instances f.instances.instances ≡ false → f.ranges ≡ None → true ≡ facts_miss b f
miss_none b f p q r = sym (ap₂ (λ m n. m && n) (ap₂ (λ m n. not m && not n) p q) (ap (λ s. not (list_any (lies_in (numbers_in s)) b.events)) r ∙ ap not (lies_in_none b.events)))

pub miss_some : (b : BlockValue) (f : Facts) (r : Ranges) (any : Bool) → f.holds_walk ≡ false → share b.instances f.instances.instances ≡ false → f.ranges ≡ Some r → any ≡ list_any (lies_in (Some r.numbers)) b.events → not any ≡ facts_miss b f
miss_some b f r any p q is e = sym (ap₂ (λ m n. m && n) (ap₂ (λ m n. not m && not n) p q) (ap (λ s. not (list_any (lies_in (numbers_in s)) b.events)) is ∙ ap not (sym e)))

pub ruleset missing = (miss_none, miss_some)
