use Rattle.std.proofs.Common.{◌∙◌, sym, ap}
use Rattle.std.specs.List.{position}
use Rattle.std.specs.Str.{bytes_eq}
use Rattle.msc_base.proofs.TableFacts.{position-map}
use Rattle.msc_base.proofs.name_table.NameTable.number_of.Goals as goal

pub returns : goal.returns
returns c = c.get_index_of.ensures.index ∙ sym (position-map (λ v. v.items) (bytes_eq c.args.name.now) c.self.inside.names.keys) ∙ ap (position (bytes_eq c.args.name.now)) c.self.view_is
