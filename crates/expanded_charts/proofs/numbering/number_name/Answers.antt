use Rattle.std.proofs.Common.{◌∙◌, ap}
use Rattle.std.specs.List.{position}
use Rattle.std.specs.Str.{bytes_eq}
use Rattle.msc_base.specs.NameTables.{with_name}
use Rattle.expanded_charts.proofs.Numbers.{name_numbered}
use Rattle.expanded_charts.proofs.numbering.number_name.Goals as goal

pub unreachable-requires : goal.unreachable-requires
unreachable-requires c =
    name_numbered c.args.names.now c.add.new.self c.args.name.now (c.in_ok-add.ensures.ok ∙ ap (with_name c.args.names.now) c.bytes.ensures.bytes) (c.in-None.ensures ∙ ap (λ n. position (bytes_eq n) c.add.new.self) c.bytes-2.ensures.bytes)
