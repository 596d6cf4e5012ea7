-- What a document whose text has been read is.
use Rattle.std.proofs.Common.{◌≡◌, ℕ, List, subst, Result, Ok, Err, IfOk, Option}
use Rattle.msc_base.specs.declared.limits.TheConstants.Limits.{NESTING}
use Rattle.msc_base.specs.declared.memory.NoMemory.{NoMemory}
use Rattle.msc_base.specs.declared.place.Place.{Place}
use Rattle.outside.specs.Shelves.{Files}
use Rattle.msc_tree.specs.Charts.{Document as Tree}
use Rattle.msc_rules.specs.declared.rule.Rule.{Rule}
use Rattle.msc_acceptance.specs.Acceptance.{HasFault, IsAccepted}
use Rattle.msc_meaning.specs.Tables.{Table}
use Rattle.msc_meaning.specs.Views.{table_view}
use Rattle.msc_cmd.specs.declared.document.Document.{Document}
use Rattle.msc_cmd.specs.declared.document.Document.TheVariants.{Charts, Refused}
use Rattle.msc_cmd.specs.declared.document_text.DocumentText.{DocumentText}
use Rattle.msc_cmd.specs.declared.document_text.DocumentText.TheVariants.{Read}
use Rattle.msc_cmd.specs.declared.document_text.DocumentText.TheVariants as text
use Rattle.msc_cmd.specs.DocumentTexts.{IsOnlyText, IsOnlyTextFault, IsTheText}
use Rattle.msc_document.specs.FormedDocuments.{DocumentsAreWellFormed}
use Rattle.msc_document.specs.FormedGraphs.{GraphsAreFormed}
use Rattle.msc_tree.specs.Views.{document_view}
use Rattle.msc_cmd.specs.Documents.{HasDocumentFault, of_text, of_charts, IsOnlyDocument, IsOnlyFault, IsTheDocument, AcceptsAlone, RefusesAlone, ComesTo}
use Rattle.msc_cmd.specs.Intakes.{IsFormedText, IsTextOf, IsDocumentOf}

-- a text whose document is refused
only_refused : (bytes : List ℕ) (tree : Tree) (broken : Rule) (place : Place) → IsOnlyText bytes tree → RefusesAlone tree broken place → IsOnlyFault bytes broken place
only_refused bytes tree broken place t r = record {
  is = of_charts tree t.is r.is;
  only = λ other there h. by other there h;
  none = λ charts d. r.none charts (subst (λ (u : Tree). IsAccepted u charts) (t.only d.tree d.read) d.accepted);
}
  where
    by : (other : Rule) (there : Place) → HasDocumentFault bytes other there → (other ≡ broken) × (there ≡ place)
    by other there (of_text h) = absurd (t.faultless other there h)
    by other there (of_charts u read h) = r.only other there (subst (λ (v : Tree). HasFault v other there) (t.only u read) h)

-- a text whose document is accepted
only_accepted : (bytes : List ℕ) (tree : Tree) (table : Table) → IsOnlyText bytes tree → AcceptsAlone tree table → IsOnlyDocument bytes table
only_accepted bytes tree table t a = record {
  is = record { tree = tree; read = t.is; accepted = a.is };
  only = λ others d. a.only others (subst (λ (u : Tree). IsAccepted u others) (t.only d.tree d.read) d.accepted);
  faultless = λ broken place h. by broken place h;
  charts = a.charts;
}
  where
    by : (broken : Rule) (place : Place) → HasDocumentFault bytes broken place → ⊥
    by broken place (of_text h) = t.faultless broken place h
    by broken place (of_charts u read h) = a.faultless broken place (subst (λ (v : Tree). HasFault v broken place) (t.only u read) h)

-- a text that has a fault
pub only_faulty : (bytes : List ℕ) (broken : Rule) (place : Place) → IsOnlyTextFault bytes broken place → IsOnlyFault bytes broken place
only_faulty bytes broken place f = record {
  is = of_text f.is;
  only = λ other there h. by other there h;
  none = λ charts d. f.none d.tree d.read;
}
  where
    by : (other : Rule) (there : Place) → HasDocumentFault bytes other there → (other ≡ broken) × (there ≡ place)
    by other there (of_text h) = f.only other there h
    by other there (of_charts u read h) = absurd (f.none u read)

pub settled_read : (bytes : List ℕ) (tree : Tree) (r : Result Document NoMemory) → IfOk r (ComesTo tree) → IsOnlyText bytes tree → IfOk r (IsTheDocument bytes)
settled_read bytes tree (Ok (Charts charts)) h t = only_accepted bytes tree (table_view charts) t h
settled_read bytes tree (Ok (Refused broken place)) h t = only_refused bytes tree broken place t h
settled_read bytes tree (Err e) h t = tt

-- the charts of a text that was taken are well formed, and so are their graphs
pub formed_text : DocumentsAreWellFormed → GraphsAreFormed → (files : Option Files) (name : List ℕ) (text : DocumentText) → IsTextOf files name text → IsFormedText text
formed_text law graphs files name (Read document) t = (law NESTING t.is.is.tokens (document_view document) t.is.is.reads, graphs NESTING t.is.is.tokens (document_view document) t.is.is.reads)
formed_text law graphs files name (text.Refused broken place) t = tt

-- what a document that was taken is
pub document_of : (files : Option Files) (name : List ℕ) (text : DocumentText) (r : Result Document NoMemory) → IsTextOf files name text → ((bytes : List ℕ) → IsTheText bytes text → IfOk r (IsTheDocument bytes)) → IfOk r (IsDocumentOf files name)
document_of files name text (Ok d) t settles = record { bytes = t.bytes; held = t.held; is = settles t.bytes t.is }
document_of files name text (Err e) t settles = tt
