-- What the command answers to its words and the entries of the shelf.
use Rattle.std.specs.Prelude.{◌≡◌, ◌≤◌, ◌++◌, ◌∷◌, [], ℕ, Bool, true, false, List, length, Option, Some, None}
use Rattle.outside.specs.Shelves.{Files}
use Rattle.msc_base.specs.declared.label.Label.{Label}
use Rattle.msc_base.specs.declared.limits.TheConstants.Limits.{BUDGET_DEFAULT}
use Rattle.msc_base.specs.declared.place.Place.{Place}
use Rattle.msc_base.specs.declared.verdict.Verdict.{Verdict}
use Rattle.msc_base.specs.declared.verdict.Verdict.TheVariants.{Conforms, Fails, Early, TooLarge}
use Rattle.msc_tree.specs.Charts.{Document as Tree}
use Rattle.msc_print.specs.ChartWords.{canonical_text}
use Rattle.chart_lists.specs.Listing.{listed_of}
use Rattle.msc_meaning.specs.Meanings.{Begins}
use Rattle.msc_meaning.specs.Tables.{ChartEntry, Table, chart_at}
use Rattle.msc_rules.specs.declared.rule.Rule.{Rule}
use Rattle.line_events.specs.declared.event.LineEvent.{LineEvent}
use Rattle.event_log.specs.declared.event.LogFault.{LogFault}
use Rattle.event_log.specs.declared.event.LogForm.{LogForm}
use Rattle.event_log.specs.declared.event.LogForm.TheVariants.{Lines}
use Rattle.event_log.specs.Logs.{LogOf}
use Rattle.next_labels.specs.NextLabels.{AreAll}
use Rattle.trace_judge.specs.Logs.{labels_of}
use Rattle.chart_judge.specs.ChartVerdicts.{IsChartVerdict}
use Rattle.chart_judge.specs.LargestWeights.{IsLargestWeight}
use Rattle.judge_report.specs.declared.fault.Fault.TheVariants.{Document, NoChart, Log, Usage}
use Rattle.judge_report.specs.Lists.{chart_list, instance_list}
use Rattle.judge_report.specs.NextTexts.{next_list}
use Rattle.judge_report.specs.SampleTexts.{sample_line}
use Rattle.judge_report.specs.Texts.{accepted_line, fault_line, verdict_line}
use Rattle.msc_cmd.specs.declared.log_reading.Wanted.{Wanted}
use Rattle.msc_cmd.specs.declared.log_reading.Wanted.TheVariants.{TheVerdict, NextLabels}
use Rattle.msc_requests.specs.declared.request.Request.{Request}
use Rattle.msc_requests.specs.declared.request.Request.TheVariants.{Judge, Next, Sessions, Choices, Check, Print, Sample}
use Rattle.msc_requests.specs.declared.request.Request.TheVariants as requests
use Rattle.msc_cmd.specs.DocumentTexts.{ReadsDocument, HasTextFault}
use Rattle.msc_cmd.specs.Documents.{IsDocument, HasDocumentFault}
use Rattle.msc_requests.specs.Requests.{request_of, IsNoRequest}
use Rattle.msc_cmd.specs.Samples.{sample_log, sample_name, sample_text, yes_count}
use Rattle.msc_cmd.specs.ChoiceOutcomes.{ListsChoices}
use Rattle.msc_cmd.specs.SessionOutcomes.{SessionsAnswer}
use Rattle.msc_cmd.specs.VerdictStatuses.{status_of}

-- the labels that may come next behind the events of a log, which conforms so far or stops early
pub record ListsNext (table : Table) (name : List ℕ) (events : List LineEvent) (conforms : Bool) (status : ℕ) (text : List ℕ) : Type 0 where
  pub next : List Label
  pub are : AreAll (λ a. Begins table name (labels_of events ++ a ∷ [])) next
  pub status_is : status ≡ 0
  pub text_is : text ≡ next_list conforms next

-- the verdict's status and line
abbrev pub TellsVerdict : Bool → Verdict → ℕ → List ℕ → Type 0
TellsVerdict json verdict status text = (status ≡ status_of verdict) × (text ≡ verdict_line json verdict)

-- where the log may go on the labels that may come next; else the verdict's line
abbrev pub TellsNext : Table → List ℕ → List LineEvent → Verdict → ℕ → List ℕ → Type 0
TellsNext table name events (Conforms count) status text = ListsNext table name events true status text
TellsNext table name events (Fails number line) status text = TellsVerdict false (Fails number line) status text
TellsNext table name events (Early count) status text = ListsNext table name events false status text
TellsNext table name events (TooLarge number) status text = TellsVerdict false (TooLarge number) status text

-- what is told of the events of a log on which this is the verdict, by what is wanted of it
abbrev pub Tells : Wanted → Bool → Table → List ℕ → List LineEvent → Verdict → ℕ → List ℕ → Type 0
Tells TheVerdict json table name events verdict status text = TellsVerdict json verdict status text
Tells NextLabels json table name events verdict status text = TellsNext table name events verdict status text

-- what the bytes of a log in this form give for the chart of a name within the budget, told as JSON or plain
pub data LogOutcome (wanted : Wanted) (form : LogForm) (budget : ℕ) (json : Bool) (table : Table) (name bytes : List ℕ) (status : ℕ) (text : List ℕ) : Type 0 where
  bad_log : (events : List LineEvent) (fault : LogFault) → LogOf form false bytes events (Some fault) → status ≡ 5 → text ≡ fault_line json (Log fault) → LogOutcome wanted form budget json table name bytes status text
  judged : (events : List LineEvent) (verdict : Verdict) → LogOf form false bytes events None → IsChartVerdict table name budget events verdict → Tells wanted json table name events verdict status text
      → LogOutcome wanted form budget json table name bytes status text

-- the same of the charts of a table, for each list of bytes
abbrev pub LogAnswer : Wanted → LogForm → ℕ → Bool → List ℕ → Table → List ℕ → ℕ → List ℕ → Type 0
LogAnswer wanted form budget json name table bytes = LogOutcome wanted form budget json table name bytes

-- what the entry of a log gives: what is answered of its bytes
pub data EntryOutcome (files : Files) (log : List ℕ) (Answer : List ℕ → ℕ → List ℕ → Type 0) (status : ℕ) (text : List ℕ) : Type 0 where
  of_bytes : (bytes : List ℕ) → files log ≡ Some bytes → Answer bytes status text → EntryOutcome files log Answer status text

-- what the entry of a document gives: its first fault, or what is answered of its charts
pub data DocumentOutcome (json : Bool) (files : Files) (document : List ℕ) (Answer : Table → ℕ → List ℕ → Type 0) (status : ℕ) (text : List ℕ) : Type 0 where
  refused : (bytes : List ℕ) (broken : Rule) (place : Place) → files document ≡ Some bytes → HasDocumentFault bytes broken place → status ≡ 4 → text ≡ fault_line json (Document broken place)
      → DocumentOutcome json files document Answer status text
  of_charts : (bytes : List ℕ) (table : Table) → files document ≡ Some bytes → IsDocument bytes table → Answer table status text → DocumentOutcome json files document Answer status text

-- what the chart of a name gives: that there is none, or what is answered of it
pub data ChartOutcome (json : Bool) (name : List ℕ) (table : Table) (Answer : ChartEntry → ℕ → List ℕ → Type 0) (status : ℕ) (text : List ℕ) : Type 0 where
  no_chart : chart_at table name ≡ None → status ≡ 4 → text ≡ fault_line json NoChart → ChartOutcome json name table Answer status text
  of_chart : (chart : ChartEntry) → chart_at table name ≡ Some chart → Answer chart status text → ChartOutcome json name table Answer status text

-- the status is 0, and the text this one
abbrev pub Says : List ℕ → ℕ → List ℕ → Type 0
Says words status text = (status ≡ 0) × (text ≡ words)

-- where a log is judged by the chart of a name: what the log's entry gives
abbrev pub JudgeAnswer : Bool → Files → List ℕ → List ℕ → (Table → List ℕ → ℕ → List ℕ → Type 0) → Table → ℕ → List ℕ → Type 0
JudgeAnswer json files name log Answer table = ChartOutcome json name table (λ chart. EntryOutcome files log (Answer table))

-- where a document is checked: how many charts it has
abbrev pub CheckAnswer : Bool → Table → ℕ → List ℕ → Type 0
CheckAnswer json table = Says (accepted_line json (length table))

-- where it is listed: its charts, or the instances of one
abbrev pub ListAnswer : Bool → Option (List ℕ) → Table → ℕ → List ℕ → Type 0
ListAnswer json None table = Says (chart_list json table)
ListAnswer json (Some name) table = ChartOutcome json name table (λ chart. Says (instance_list json (listed_of table chart)))

-- where the choices of the chart of a name are listed
abbrev pub ChoicesAnswer : List ℕ → Table → ℕ → List ℕ → Type 0
ChoicesAnswer name table = ChartOutcome false name table (λ chart. ListsChoices table name)

-- what the entries of these names give
abbrev pub FilesOutcome : Bool → Files → List ℕ → List ℕ → List ℕ → (Table → List ℕ → ℕ → List ℕ → Type 0) → ℕ → List ℕ → Type 0
FilesOutcome json files document name log Answer = DocumentOutcome json files document (JudgeAnswer json files name log Answer)

-- what the entry of this name gives where it is to be printed: later rules than those of the text aren't looked at
pub data PrintOutcome (files : Files) (document : List ℕ) (status : ℕ) (text : List ℕ) : Type 0 where
  unread : (bytes : List ℕ) (broken : Rule) (place : Place) → files document ≡ Some bytes → HasTextFault bytes broken place → status ≡ 4 → text ≡ fault_line false (Document broken place)
      → PrintOutcome files document status text
  printed : (bytes : List ℕ) (tree : Tree) → files document ≡ Some bytes → ReadsDocument bytes tree → status ≡ 0 → text ≡ canonical_text tree → PrintOutcome files document status text

-- what the log of a sample gives for its chart: where it conforms the line of a sample, with the largest weight of what is left; else
-- what it gives where it is judged
pub data SampleLogOutcome (turns seed : ℕ) (table : Table) (status : ℕ) (text : List ℕ) : Type 0 where
  conforming : (events : List LineEvent) (count largest : ℕ) → LogOf Lines false (sample_log turns seed) events None → IsChartVerdict table sample_name BUDGET_DEFAULT events (Conforms count)
      → IsLargestWeight table sample_name events largest → status ≡ 0 → text ≡ sample_line turns (yes_count turns seed) largest → SampleLogOutcome turns seed table status text
  otherwise : (status ≡ 0 → ⊥) → LogOutcome TheVerdict Lines BUDGET_DEFAULT false table sample_name (sample_log turns seed) status text → SampleLogOutcome turns seed table status text

-- what a sample gives, whatever the entries are: the first fault of its document, or what its log gives for its chart
pub data SampleOutcome (turns seed : ℕ) (status : ℕ) (text : List ℕ) : Type 0 where
  unaccepted : (broken : Rule) (place : Place) → HasDocumentFault sample_text broken place → status ≡ 4 → text ≡ fault_line false (Document broken place) → SampleOutcome turns seed status text
  of_sample : (table : Table) → IsDocument sample_text table → ChartOutcome false sample_name table (λ chart. SampleLogOutcome turns seed table) status text → SampleOutcome turns seed status text

-- what a request gives for the entries
abbrev pub RequestOutcome : Request → Files → ℕ → List ℕ → Type 0
RequestOutcome (Judge document chart log budget json form) files = FilesOutcome json files document chart log (LogAnswer TheVerdict form budget json chart)
RequestOutcome (Next document chart log budget) files = FilesOutcome false files document chart log (LogAnswer NextLabels Lines budget false chart)
RequestOutcome (Sessions document chart log budget form) files = FilesOutcome false files document chart log (SessionsAnswer form budget chart)
RequestOutcome (Choices document chart) files = DocumentOutcome false files document (ChoicesAnswer chart)
RequestOutcome (Check document json) files = DocumentOutcome json files document (CheckAnswer json)
RequestOutcome (requests.List document chart json) files = DocumentOutcome json files document (ListAnswer json chart)
RequestOutcome (Print document) files = PrintOutcome files document
RequestOutcome (Sample turns seed) files = SampleOutcome turns seed

-- what the words give for the entries: the status, and the text that is written
pub data IsOutcome (words : List (List ℕ)) (files : Files) (status : ℕ) (text : List ℕ) : Type 0 where
  no_request : IsNoRequest words → status ≡ 2 → text ≡ fault_line false Usage → IsOutcome words files status text
  of_request : (request : Request) → request_of words ≡ Some request → RequestOutcome request files status text → IsOutcome words files status text

-- this status and this text, and no others
pub record IsTheOne (P : ℕ → List ℕ → Type 0) (status : ℕ) (text : List ℕ) : Type 0 where
  pub is : P status text
  pub only : (other : ℕ) (others : List ℕ) → P other others → (other ≡ status) × (others ≡ text)

-- what is answered to the words: their one outcome
abbrev pub IsAnswer : List (List ℕ) → Files → ℕ → List ℕ → Type 0
IsAnswer words files = IsTheOne (IsOutcome words files)

-- ---- statuses

-- a status of an outcome: 7, 8 and 9 are those of a shelf that failed, a sink that failed, and want of memory
abbrev pub IsOfOutcome : ℕ → Type 0
IsOfOutcome status = (status ≡ 7 → ⊥) × (status ≡ 8 → ⊥) × (status ≡ 9 → ⊥)

-- the statuses that there are
abbrev pub IsStatus : ℕ → Type 0
IsStatus status = status ≤ 9

-- a fact of the entries, where they are told
abbrev pub IfTold : Option Files → (Files → Type 0) → Type 0
IfTold None P = Unit {0}
IfTold (Some files) P = P files
