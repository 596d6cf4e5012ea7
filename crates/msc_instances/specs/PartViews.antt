-- The plain parts that the parts of the code stand for.
use Rattle.std.specs.Prelude.{ℕ, List, Option, Some, None}
use Rattle.msc_instances.specs.declared.parts.PartColumn.{PartColumn}
use Rattle.msc_instances.specs.declared.parts.PartColumn.TheVariants.{InColumn, Outside}
use Rattle.msc_instances.specs.declared.parts.NamedPart.{NamedPart}
use Rattle.msc_instances.specs.Parts as plain

abbrev pub column_view : PartColumn → Option (List ℕ)
column_view (InColumn name) = Some name.now
column_view Outside = None

abbrev pub part_view : NamedPart → plain.NamedPart
part_view p = record { name = p.name.now; column = column_view p.setting; place = p.place }
