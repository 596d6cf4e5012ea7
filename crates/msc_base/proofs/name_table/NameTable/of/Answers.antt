use Rattle.std.proofs.Common.{◌≡◌, [], fold, ap, ◌∙◌}
use Rattle.std.proofs.lemmas.List.{take_all}
use Rattle.std.specs.List.{list_any}
use Rattle.std.specs.Str.{bytes_eq}
use Rattle.msc_base.specs.NameTables.{with_name}
use Rattle.msc_base.proofs.NameFacts.{any_folded, different_kept}
use Rattle.msc_base.proofs.name_table.NameTable.of.Goals as goal

pub returns-clause-different : goal.returns-clause-different
returns-clause-different c =
    let made : c.loop-name.table ≡ fold with_name [] c.args.names.now = c.loop-name.invariant ∙ ap (fold with_name []) (take_all c.loop-name.name-index c.args.names.now c.loop-name-test.false) in
    λ differ. made ∙ different_kept c.args.names.now differ

pub returns-clause-has : goal.returns-clause-has
returns-clause-has c =
    let made : c.loop-name.table ≡ fold with_name [] c.args.names.now = c.loop-name.invariant ∙ ap (fold with_name []) (take_all c.loop-name.name-index c.args.names.now c.loop-name-test.false) in
    λ name. ap (list_any (bytes_eq name)) made ∙ any_folded [] c.args.names.now name
