-- Serves private contracts alone.
-- What comes of opening a document: its charts, or what is told in their place.
use Rattle.std.specs.Prelude.{◌≡◌, ◌⊎◌, ℕ, List, Option, Bool}
use Rattle.outside.specs.Shelves.{Files}
use Rattle.msc_base.specs.declared.place.Place.{Place}
use Rattle.msc_rules.specs.declared.rule.Rule.{Rule}
use Rattle.judge_report.specs.declared.fault.Fault.TheVariants as fault
use Rattle.judge_report.specs.Texts.{fault_line}
use Rattle.msc_cmd.specs.declared.answer.Reply.{Reply}
use Rattle.msc_cmd.specs.declared.document.Document.TheVariants.{Charts, Refused}
use Rattle.msc_cmd.specs.declared.opening.Opened.{Opened}
use Rattle.msc_cmd.specs.declared.opening.Opened.TheVariants.{Accepted, Told}
use Rattle.msc_cmd.specs.Failures.{CannotOpen}
use Rattle.msc_cmd.specs.Intakes.{IsDocumentOf}

-- the reply tells the first fault of the document of this name
pub record TellsFault (json : Bool) (files : Option Files) (name : List ℕ) (reply : Reply) : Type 0 where
  pub rule : Rule
  pub place : Place
  pub document : IsDocumentOf files name (Refused rule place)
  pub status : reply.status ≡ 4
  pub text : reply.text ≡ fault_line json (fault.Document rule place)

-- the reply tells that the document of this name can't be read
pub record TellsFailure (json : Bool) (before now : ℕ) (broken : Bool) (last : Option (List ℕ)) (name : List ℕ) (reply : Reply) : Type 0 where
  pub status : reply.status ≡ 7
  pub cannot : CannotOpen json before now broken last name reply.text

abbrev pub IsOpened : Bool → Option Files → ℕ → ℕ → Bool → Option (List ℕ) → List ℕ → Opened → Type 0
IsOpened json files before now broken last name (Accepted charts) = IsDocumentOf files name (Charts charts)
IsOpened json files before now broken last name (Told reply) = TellsFault json files name reply ⊎ TellsFailure json before now broken last name reply
