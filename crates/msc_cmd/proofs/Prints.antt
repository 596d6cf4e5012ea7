-- Replies to a request to print.
use Rattle.std.proofs.Common.{◌≡◌, ◌<◌, false, ℕ, List, sym, ap, ◌∙◌, subst, Option, Some, None, Result, Ok, Err, IfOk}
use Rattle.outside.specs.Shelves.{Files}
use Rattle.msc_base.specs.declared.place.Place.{Place}
use Rattle.msc_tree.specs.Charts.{Document as Tree}
use Rattle.msc_rules.specs.declared.rule.Rule.{Rule}
use Rattle.msc_print.specs.ChartWords.{canonical_text}
use Rattle.judge_report.specs.declared.fault.Fault.TheVariants.{Document}
use Rattle.judge_report.specs.Texts.{fault_line}
use Rattle.msc_cmd.specs.declared.answer.Reply.{Reply}
use Rattle.msc_cmd.specs.DocumentTexts.{ReadsDocument, HasTextFault, IsOnlyText, IsOnlyTextFault}
use Rattle.entry_reading.specs.Reading.{IsHeld}
use Rattle.msc_cmd.specs.Outcomes.{PrintOutcome, unread, printed, IfTold, IsTheOne}
use Rattle.msc_cmd.proofs.LogOutcomes.{one_entry}

-- the one outcome where the text has a fault
unread_one : (files : Files) (document bytes : List ℕ) (broken : Rule) (place : Place) (status : ℕ) (text : List ℕ) → files document ≡ Some bytes → IsOnlyTextFault bytes broken place → status ≡ 4
    → text ≡ fault_line false (Document broken place) → IsTheOne (PrintOutcome files document) status text
unread_one files document bytes broken place status text held f s t = record { is = unread bytes broken place held f.is s t; only = λ other others o. by other others o }
  where
    by : (other : ℕ) (others : List ℕ) → PrintOutcome files document other others → (other ≡ status) × (others ≡ text)
    by other others (unread bs b p h n os ot) =
        let e = f.only b p (subst (λ us. HasTextFault us b p) (one_entry files document bytes bs held h) n) in
        (os ∙ sym s, ot ∙ ap (λ (u : Rule). fault_line false (Document u p)) e.0 ∙ ap (λ (u : Place). fault_line false (Document broken u)) e.1 ∙ sym t)
    by other others (printed bs tree h r os ot) = absurd (f.none tree (subst (λ us. ReadsDocument us tree) (one_entry files document bytes bs held h) r))

-- the one outcome where it is a document
printed_one : (files : Files) (document bytes : List ℕ) (tree : Tree) (status : ℕ) (text : List ℕ) → files document ≡ Some bytes → IsOnlyText bytes tree → status ≡ 0
    → text ≡ canonical_text tree → IsTheOne (PrintOutcome files document) status text
printed_one files document bytes tree status text held d s t = record { is = printed bytes tree held d.is s t; only = λ other others o. by other others o }
  where
    by : (other : ℕ) (others : List ℕ) → PrintOutcome files document other others → (other ≡ status) × (others ≡ text)
    by other others (unread bs b p h n os ot) = absurd (d.faultless b p (subst (λ us. HasTextFault us b p) (one_entry files document bytes bs held h) n))
    by other others (printed bs found h r os ot) =
        let same : found ≡ tree = d.only found (subst (λ us. ReadsDocument us found) (one_entry files document bytes bs held h) r) in
        (os ∙ sym s, ot ∙ ap canonical_text same ∙ sym t)

-- The same for replies, where the entries are told

pub unread_told : {E : Type 0} (files : Option Files) (d bytes : List ℕ) (broken : Rule) (place : Place) (r : Result Reply E) → IsHeld files d bytes → IsOnlyTextFault bytes broken place → IfOk r (λ x. x.status ≡ 4)
    → IfOk r (λ x. x.text ≡ fault_line false (Document broken place)) → IfOk r (λ x. x.status < 7 → IfTold files (λ f. IsTheOne (PrintOutcome f d) x.status x.text))
unread_told None d bytes broken place (Ok x) h o s t = λ _. tt
unread_told None d bytes broken place (Err e) h o s t = tt
unread_told (Some f) d bytes broken place (Ok x) h o s t = λ _. unread_one f d bytes broken place x.status x.text h o s t
unread_told (Some f) d bytes broken place (Err e) h o s t = tt

pub printed_told : (files : Option Files) (d bytes : List ℕ) (tree : Tree) (x : Reply) → IsHeld files d bytes → IsOnlyText bytes tree → x.status ≡ 0 → x.text ≡ canonical_text tree
    → x.status < 7 → IfTold files (λ f. IsTheOne (PrintOutcome f d) x.status x.text)
printed_told None d bytes tree x h o s t = λ _. tt
printed_told (Some f) d bytes tree x h o s t = λ _. printed_one f d bytes tree x.status x.text h o s t
