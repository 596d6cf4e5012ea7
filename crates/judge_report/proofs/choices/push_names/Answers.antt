use Rattle.std.proofs.Common.{◌≡◌, ◌∷◌, ◌++◌, ◌∙◌, List, ℕ, ap, flat_map, rules, take_all}
use Rattle.judge_report.proofs.NameLists.{behind_comma, names_all}
use Rattle.judge_report.proofs.choices.push_names.Goals as goal

pub returns : goal.returns
returns c =
    let names : c.args.names.now ≡ c.in-Some.first.now ∷ c.in-Some.others.now = search rules in
    let first : c.extend_from_slice.new.self.items ≡ c.args.bytes.now.items ++ c.in-Some.first.now = search rules in
    let others : c.loop-name.bytes.items ≡ c.extend_from_slice.new.self.items ++ flat_map behind_comma c.in-Some.others.now =
    c.loop-name.invariant ∙ ap (λ (ns : List (List ℕ)). c.extend_from_slice.new.self.items ++ flat_map behind_comma ns) (take_all c.loop-name.name-index c.in-Some.others.now c.loop-name-test.false) in
    names_all c.args.bytes.now.items c.in-Some.first.now c.extend_from_slice.new.self.items c.in-Some.others.now c.args.names.now _ names first others
