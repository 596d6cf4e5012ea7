-- Serves private contracts alone.
-- A document as far as it has been read.
use Rattle.std.specs.Prelude.{◌≡◌, ◌<◌, ◌⊎◌, ℕ, List, [], ◌++◌, length, take, Option, Some, None, ⊤}
use Rattle.outside.specs.Shelves.{Files}
use Rattle.msc_base.specs.declared.limits.TheConstants.Limits.{DOCUMENT_BYTES}
use Rattle.msc_cmd.specs.declared.document.Document.{Document}
use Rattle.msc_cmd.specs.declared.document_text.DocumentText.{DocumentText}
use Rattle.msc_cmd.specs.declared.document_text.DocumentText.TheVariants.{Read, Refused}
use Rattle.chart_text.specs.WellFormed.{AreAllWellFormed}
use Rattle.formed_graphs.specs.FormedGraphs.{HaveFormedGraphs}
use Rattle.msc_tree.specs.Views.{document_view}
use Rattle.msc_cmd.specs.DocumentTexts.{IsTheText}
use Rattle.msc_cmd.specs.Documents.{IsTheDocument}
use Rattle.entry_reading.specs.Reading.{HasRead, IsHeld}
use Rattle.msc_cmd.specs.declared.intake.Intake.{Intake}

-- these bytes have been taken, and those within the limit are held
pub record HasTaken (bytes : List ℕ) (intake : Intake) : Type 0 where
  pub counted : intake.count ≡ length bytes
  pub held : intake.text.items ≡ take DOCUMENT_BYTES bytes

-- what has been taken and what is left are the entry of this name, where it is told
pub record IsReading (files : Option Files) (name : List ℕ) (rest : Option (List ℕ)) (intake : Intake) : Type 0 where
  pub bytes : List ℕ
  pub taken : HasTaken bytes intake
  pub held : HasRead files name rest bytes

-- they have been read to their end, or behind the limit
pub record IsPrefixOf (prefix bytes : List ℕ) : Type 0 where
  pub rest : List ℕ
  pub are : bytes ≡ prefix ++ rest
  pub enough : (rest ≡ []) ⊎ (DOCUMENT_BYTES < length prefix)

-- of the entry of this name so much has been taken: all, or more than a document may have
pub record HoldsDocument (files : Option Files) (name : List ℕ) (intake : Intake) : Type 0 where
  pub bytes : List ℕ
  pub held : IsHeld files name bytes
  pub prefix : List ℕ
  pub taken : HasTaken prefix intake
  pub prefix_of_list : IsPrefixOf prefix bytes

-- the entry of this name is this text, or has this fault; its bytes are told where the entries are
pub record IsTextOf (files : Option Files) (name : List ℕ) (text : DocumentText) : Type 0 where
  pub bytes : List ℕ
  pub held : IsHeld files name bytes
  pub is : IsTheText bytes text

-- the charts of a document that was read are well formed, and so are their graphs
abbrev pub IsFormedText : DocumentText → Type 0
IsFormedText (Read document) = AreAllWellFormed (document_view document).charts × HaveFormedGraphs (document_view document).charts
IsFormedText (Refused broken place) = ⊤

-- the entry of this name is this document, or has this fault; its bytes are told where the entries are
pub record IsDocumentOf (files : Option Files) (name : List ℕ) (document : Document) : Type 0 where
  pub bytes : List ℕ
  pub held : IsHeld files name bytes
  pub is : IsTheDocument bytes document
