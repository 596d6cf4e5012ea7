use Rattle.std.proofs.Common.{rules, ◌≡◌, refl}
use Rattle.msc_base.specs.NameTables.{with_name}
use Rattle.msc_instances.proofs.Meeting.{knows_outside}
use Rattle.msc_instances.proofs.again.note_outside.Goals as goal

pub returns-clause-kept : goal.returns-clause-kept
returns-clause-kept c =
    let names : c.add.new.self ≡ with_name c.args.met.now.names c.args.name.now = search rules in
    let outside : c.add-2.new.self ≡ with_name c.args.met.now.outside c.args.name.now = search rules in
    λ before part k is none. knows_outside c.args.met.now _ before part c.args.name.now k is none names outside refl
