use Rattle.std.proofs.Common.{◌≡◌, ◌||◌, Bool, true, false, ap, sym, ◌∙◌, refl}
use Rattle.bit_sets.specs.Blocks.{BlockValue, is_among as has}
use Rattle.term_facts.proofs.Listing.{is_equal, set_equal}
use Rattle.term_facts.proofs.Members.{has-insert_each}
use Rattle.term_facts.proofs.facts.unite.Goals as goal

twice : (b : Bool) → b ≡ (b || b)
twice true = refl
twice false = refl

pub returns-then-eq : goal.returns-then-eq
returns-then-eq c n =
    let same = set_equal c.args.block.now.instances c.args.other.now.instances (sym c.compare_instances.ensures ∙ is_equal c.compare_instances.result (sym c.eq.ensures ∙ c.if-eq.true)) in
    twice (has c.args.block.now.instances n) ∙ ap (λ l. has c.args.block.now.instances n || has l n) same

pub returns : goal.returns
returns c n = ap (λ (b : BlockValue). has b.instances n) c.in_ok-add_instances.ensures.ok ∙ has-insert_each c.args.block.now.instances c.args.other.now.instances n
