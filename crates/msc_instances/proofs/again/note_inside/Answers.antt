use Rattle.std.proofs.Common.{rules, ◌≡◌, refl, not}
use Rattle.std.specs.List.{list_any}
use Rattle.msc_base.specs.Lists.{IsAmong}
use Rattle.msc_base.specs.NameTables.{with_name}
use Rattle.msc_instances.specs.contracts.again.PartKeyPartialEq.TheImpl.{eq-value}
use Rattle.msc_instances.specs.declared.again.PartKey.{PartKey}
use Rattle.msc_instances.proofs.Meeting.{knows_inside, inside_told}
use Rattle.msc_instances.proofs.again.note_inside.Goals as goal

pub returns-then-outside-clause-kept : goal.returns-then-outside-clause-kept
returns-then-outside-clause-kept c =
    let key : PartKey = record { name = c.in_ok-from_slice.field-0; column = c.in_ok-from_slice-2.field-0 } in
    let key_name : key.name.items ≡ c.args.name.now = search rules in
    let key_column : key.column.items ≡ c.args.column.now = search rules in
    let names : c.add.new.self ≡ with_name c.args.met.now.names c.args.name.now = search rules in
    λ before part k is some. knows_inside c.args.met.now _ before part c.args.name.now c.args.column.now key k is some key_name key_column names refl c.in_ok-new.ensures.keys

pub returns-else-outside-clause-kept : goal.returns-else-outside-clause-kept
returns-else-outside-clause-kept c =
    let key : PartKey = record { name = c.in_ok-from_slice.field-0; column = c.in_ok-from_slice-2.field-0 } in
    let key_name : key.name.items ≡ c.args.name.now = search rules in
    let key_column : key.column.items ≡ c.args.column.now = search rules in
    let names : c.add.new.self ≡ with_name c.args.met.now.names c.args.name.now = search rules in
    λ before part k is some. knows_inside c.args.met.now _ before part c.args.name.now c.args.column.now key k is some key_name key_column names refl c.in_ok-new.ensures.keys

pub returns-else-outside-clause-told : goal.returns-else-outside-clause-told
returns-else-outside-clause-told c =
    let key : PartKey = record { name = c.in_ok-from_slice.field-0; column = c.in_ok-from_slice-2.field-0 } in
    let key_name : key.name.items ≡ c.args.name.now = search rules in
    let key_column : key.column.items ≡ c.args.column.now = search rules in
    let none : IsAmong c.args.met.now.outside c.args.name.now → ⊥ = search rules in
    let added : c.in_ok-new.new ≡ not (list_any (eq-value.it key) c.args.met.now.inside.keys) = c.in_ok-new.ensures.added in
    λ before k. inside_told c.args.met.now before c.args.name.now c.args.column.now key c.in_ok-new.new k key_name key_column none added
