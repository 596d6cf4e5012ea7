-- When the command may say that the shelf failed.
use Rattle.std.specs.Prelude.{◌≡◌, ◌⊎◌, ℕ, List, Option, Some, Bool, true, false}
use Rattle.outside.specs.Causes.{Rose}
use Rattle.outside.specs.Shelves.{Files}
use Rattle.msc_meaning.specs.Tables.{ChartEntry, Table, chart_at}
use Rattle.judge_report.specs.declared.fault.Fault.TheVariants.{DocumentRead, LogRead}
use Rattle.judge_report.specs.Texts.{fault_line}
use Rattle.msc_requests.specs.declared.request.Request.{Request}
use Rattle.msc_requests.specs.declared.request.Request.TheVariants.{Judge, Next, Sessions, Choices, Check, Print, Sample}
use Rattle.msc_requests.specs.declared.request.Request.TheVariants as requests
use Rattle.msc_cmd.specs.Documents.{IsDocument}
use Rattle.msc_requests.specs.Requests.{request_of}
use Rattle.msc_cmd.specs.Outcomes.{IfTold}

-- the shelf's last call failed, at this entry
pub record FailedAt (before now : ℕ) (broken : Bool) (last : Option (List ℕ)) (name : List ℕ) : Type 0 where
  pub rose : Rose before now
  pub is_broken : broken ≡ true
  pub is_last : last ≡ Some name

-- the document is accepted and has the chart
abbrev pub HasChart : List ℕ → List ℕ → Files → Type 0
HasChart document name files = (bytes : List ℕ) × (table : Table) × (chart : ChartEntry) × (files document ≡ Some bytes) × IsDocument bytes table × (chart_at table name ≡ Some chart)

-- the shelf failed at the document, and the line says so
abbrev pub CannotOpen : Bool → ℕ → ℕ → Bool → Option (List ℕ) → List ℕ → List ℕ → Type 0
CannotOpen json before now broken last document text = FailedAt before now broken last document × (text ≡ fault_line json DocumentRead)

-- the shelf failed at the document, or at the log of an accepted one, and the line says which
abbrev pub CannotRead : Bool → Option Files → ℕ → ℕ → Bool → Option (List ℕ) → List ℕ → List ℕ → List ℕ → List ℕ → Type 0
CannotRead json files before now broken last document name log text =
    CannotOpen json before now broken last document text
    ⊎ (FailedAt before now broken last log × (text ≡ fault_line json LogRead) × IfTold files (HasChart document name))

-- an entry of the request can't be read; a sample asks for none
abbrev pub CannotServe : Request → Option Files → ℕ → ℕ → Bool → Option (List ℕ) → List ℕ → Type 0
CannotServe (Judge document chart log budget json form) files before now broken last text = CannotRead json files before now broken last document chart log text
CannotServe (Next document chart log budget) files before now broken last text = CannotRead false files before now broken last document chart log text
CannotServe (Sessions document chart log budget form) files before now broken last text = CannotRead false files before now broken last document chart log text
CannotServe (Choices document chart) files before now broken last text = CannotOpen false before now broken last document text
CannotServe (Check document json) files before now broken last text = CannotOpen json before now broken last document text
CannotServe (requests.List document chart json) files before now broken last text = CannotOpen json before now broken last document text
CannotServe (Print document) files before now broken last text = CannotOpen false before now broken last document text
CannotServe (Sample turns seed) files before now broken last text = ⊥

-- the words are a request, and one of its entries can't be read
pub record CannotJudge (words : List (List ℕ)) (files : Option Files) (before now : ℕ) (broken : Bool) (last : Option (List ℕ)) (text : List ℕ) : Type 0 where
  pub request : Request
  pub asked : request_of words ≡ Some request
  pub failed : CannotServe request files before now broken last text
