-- The charts of a document have one table.
use Rattle.std.proofs.Common.{◌≡◌, List, [], ◌∷◌, refl, sym, ap₂, ◌∙◌}
use Rattle.msc_instances.specs.Instances.{instances}
use Rattle.msc_meaning.specs.Tables.{ChartEntry, Table}
use Rattle.msc_meaning.specs.WovenTables.{AreEntriesOf, entry_and, IsEntryOf}
use Rattle.msc_tree.specs.Charts.{Chart}
use Rattle.msc_acceptance.proofs.ChartLaws.{one_content}

-- a chart has one entry
one_entry : (c : Chart) (e d : ChartEntry) → IsEntryOf (instances c) c e → IsEntryOf (instances c) c d → e ≡ d
one_entry c e d is at =
    let name : e.name ≡ d.name = is.name ∙ sym at.name in
    let decls : e.decls ≡ d.decls = is.decls ∙ sym at.decls in
    let content : e.content ≡ d.content = one_content (instances c) c.content e.content d.content is.content at.content in
    λ i. record { name = name i; decls = decls i; content = content i }

pub one_table : (charts : List Chart) (table others : Table) → AreEntriesOf instances charts table → AreEntriesOf instances charts others → table ≡ others
one_table [] [] [] h k = refl
one_table [] [] (d ∷ others) h k = elim k [ ]
one_table [] (e ∷ table) others h k = elim h [ ]
one_table (c ∷ charts) [] others h k = elim h [ ]
one_table (c ∷ charts) (e ∷ table) [] h k = elim k [ ]
one_table (c ∷ charts) (e ∷ table) (d ∷ others) (entry_and is more) (entry_and at rest) = ap₂ (λ (x : ChartEntry) (xs : Table). x ∷ xs) (one_entry c e d is at) (one_table charts table others more rest)
