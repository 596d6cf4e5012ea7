use Rattle.std.proofs.Common.{◌∙◌, ap, ap₂, map}
use Rattle.msc_base.specs.NameTables.{with_name}
use Rattle.msc_base.proofs.TableFacts.{list_any-map, with_inserted}
use Rattle.std.specs.Str.{bytes_eq}
use Rattle.msc_base.proofs.name_table.NameTable.add.Goals as goal

pub returns-clause-ok : goal.returns-clause-ok
returns-clause-ok c =
    ap (map (λ v. v.items)) c.in_ok-insert.ensures.keys
    ∙ with_inserted (λ v. v.items) c.self.inside.names.keys c.in_ok-name.name _ (list_any-map (λ v. v.items) (bytes_eq c.in_ok-name.name.items) c.self.inside.names.keys)
    ∙ ap₂ with_name c.self.view_is c.in_ok-name.ensures.items
