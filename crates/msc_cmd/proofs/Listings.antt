-- Replies that list a document.
use Rattle.std.proofs.Common.{◌≡◌, ◌∙◌, ℕ, Bool, List, Option, Some, None, Result, Ok, Err, IfOk, sym, ap, subst}
use Rattle.chart_lists.specs.Listing.{listed_of}
use Rattle.msc_meaning.specs.Tables.{ChartEntry, Table, chart_at}
use Rattle.msc_tree.specs.declared.chart.Decl.{Decl}
use Rattle.judge_report.specs.declared.fault.Fault.TheVariants.{NoChart}
use Rattle.judge_report.specs.Lists.{chart_list, instance_list}
use Rattle.judge_report.specs.Texts.{fault_line}
use Rattle.msc_cmd.specs.declared.answer.Reply.{Reply}
use Rattle.msc_cmd.specs.Outcomes.{ChartOutcome, IsTheOne, ListAnswer, Says}
use Rattle.msc_cmd.proofs.Replies.{chart_one, no_chart_one, said_one}

pub instances_told : (json : Bool) (name : List ℕ) (table : Table) (chart : ChartEntry) (listed : List Decl) (x : Reply) → chart_at table name ≡ Some chart → listed ≡ listed_of table chart → x.status ≡ 0 → x.text ≡ instance_list json listed
    → IsTheOne (ChartOutcome json name table (λ c. Says (instance_list json (listed_of table c)))) x.status x.text
instances_told json name table chart listed x at are s t =
    chart_one json name table (λ c. Says (instance_list json (listed_of table c))) chart x.status x.text at (said_one (instance_list json (listed_of table chart)) x.status x.text s (t ∙ ap (instance_list json) are))

pub lacking_told : {E : Type 0} (json : Bool) (name : List ℕ) (table : Table) (Answer : ChartEntry → ℕ → List ℕ → Type 0) (r : Result Reply E) → chart_at table name ≡ None → IfOk r (λ x. x.status ≡ 4)
    → IfOk r (λ x. x.text ≡ fault_line json NoChart) → IfOk r (λ x. IsTheOne (ChartOutcome json name table Answer) x.status x.text)
lacking_told json name table Answer (Ok x) lacks s t = no_chart_one json name table Answer x.status x.text lacks s t
lacking_told json name table Answer (Err e) lacks s t = tt

pub charts_listed : (json : Bool) (table : Table) (chart : Option (List ℕ)) (x : Reply) → chart ≡ None → x.status ≡ 0 → x.text ≡ chart_list json table → IsTheOne (ListAnswer json chart table) x.status x.text
charts_listed json table chart x none s t = subst (λ (o : Option (List ℕ)). IsTheOne (ListAnswer json o table) x.status x.text) (sym none) (said_one (chart_list json table) x.status x.text s t)
