use Rattle.std.proofs.Common.{◌≡◌, ◌++◌, ◌∙◌, ap, refl}
use Rattle.expanded_charts.proofs.Making.{is_added}
use Rattle.expanded_charts.proofs.parts.add.Goals as goal

pub returns : goal.returns
returns c =
    let own : c.append.new.list ≡ c.args.parts.now.own ++ c.args.made.own = c.in_ok-append.ensures ∙ ap (λ l. c.args.parts.now.own ++ l) c.as_slice.ensures in
    let gates : c.append_gates.new.list.items ≡ c.args.parts.now.gates.items ++ c.args.made.gates.items = c.in_ok-append_gates.ensures ∙ ap (λ l. c.args.parts.now.gates.items ++ l) c.as_slice-2.ensures.value in
    is_added c.args.parts.now c.args.made (record { parts = c.push.new.self; own = c.append.new.list; gates = c.append_gates.new.list; next = c.args.made.next }) c.in_ok-push.ensures.items own gates refl
