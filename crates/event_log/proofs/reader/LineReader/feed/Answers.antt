use Rattle.std.proofs.Common.{◌≡◌, ◌++◌, Some, None, false, refl, rules, sym, ap, ◌∙◌}
use Rattle.event_log.specs.RuledStates.{ReaderState}
use Rattle.event_log.proofs.Answers.{fault_same, fed_again, fed_is, is_fed, holds_answer, holds_lasting, event_stays}
use Rattle.event_log.proofs.reader.LineReader.feed.Goals as goal

pub returns-in-Some-clause-fed : goal.returns-in-Some-clause-fed
returns-in-Some-clause-fed g c =
    let s = c.args.self.now in
    let x = c.in-Some.fault in
    let is : s.fault ≡ Some x = sym (ap (λ (t : ReaderState _ _). t.fault) c.self.view_is) ∙ c.in-Some.is in
    λ form b n h. fed_is g.M.LineMeaning.rules (Some x) false form (b ++ c.args.piece.now) n s is c.requires (fed_again g.M.LineMeaning.rules x form b c.args.piece.now n s is c.requires h)

pub returns-in-Some-clause-decided : goal.returns-in-Some-clause-decided
returns-in-Some-clause-decided g c =
    let s = c.args.self.now in
    let x = c.in-Some.fault in
    let is : s.fault ≡ Some x = sym (ap (λ (t : ReaderState _ _). t.fault) c.self.view_is) ∙ c.in-Some.is in
    λ form b n h. holds_answer g.M.LineMeaning.rules (Some x) false form (b ++ c.args.piece.now) n s (fed_again g.M.LineMeaning.rules x form b c.args.piece.now n s is c.requires h)

pub returns-in-Ok-clause-decided : goal.returns-in-Ok-clause-decided
returns-in-Ok-clause-decided g c =
    let s = c.args.self.now in
    let none : c.self.inside.fault ≡ None = search rules in
    let is : s.fault ≡ None = sym (ap (λ (t : ReaderState _ _). t.fault) c.self.view_is) ∙ none in
    λ form b n h. holds_answer g.M.LineMeaning.rules None false form (b ++ c.args.piece.now) n c.feed_all.new.self (c.in-Ok.ensures.ok form b n (is_fed g.M.LineMeaning.rules None false form b n s is c.requires h))

pub returns-in-Err-clause-decided : goal.returns-in-Err-clause-decided
returns-in-Err-clause-decided g c =
    let s = c.args.self.now in
    let none : c.self.inside.fault ≡ None = search rules in
    let is : s.fault ≡ None = sym (ap (λ (t : ReaderState _ _). t.fault) c.self.view_is) ∙ none in
    λ form b n h. holds_answer g.M.LineMeaning.rules (Some c.in-Err.fault) false form (b ++ c.args.piece.now) n c.feed_all.new.self (c.in-Err.ensures.err form b n (is_fed g.M.LineMeaning.rules None false form b n s is c.requires h))

pub returns-in-Some-clause-lasts : goal.returns-in-Some-clause-lasts
returns-in-Some-clause-lasts g c =
    let s = c.args.self.now in
    let x = c.in-Some.fault in
    let is : s.fault ≡ Some x = sym (ap (λ (t : ReaderState _ _). t.fault) c.self.view_is) ∙ c.in-Some.is in
    λ form b n h more. holds_lasting g.M.LineMeaning.rules x form (b ++ c.args.piece.now) more n s (fed_again g.M.LineMeaning.rules x form b c.args.piece.now n s is c.requires h)

pub returns-in-Err-clause-lasts : goal.returns-in-Err-clause-lasts
returns-in-Err-clause-lasts g c =
    let s = c.args.self.now in
    let none : c.self.inside.fault ≡ None = search rules in
    let is : s.fault ≡ None = sym (ap (λ (t : ReaderState _ _). t.fault) c.self.view_is) ∙ none in
    λ form b n h more. holds_lasting g.M.LineMeaning.rules c.in-Err.fault form (b ++ c.args.piece.now) more n c.feed_all.new.self (c.in-Err.ensures.err form b n (is_fed g.M.LineMeaning.rules None false form b n s is c.requires h))

pub returns-in-Some-clause-stays : goal.returns-in-Some-clause-stays
returns-in-Some-clause-stays g c = λ form b n e h. event_stays g.M.LineMeaning.rules form b c.args.piece.now n e h

pub returns-in-Ok-clause-stays : goal.returns-in-Ok-clause-stays
returns-in-Ok-clause-stays g c = λ form b n e h. event_stays g.M.LineMeaning.rules form b c.args.piece.now n e h

pub returns-in-Err-clause-stays : goal.returns-in-Err-clause-stays
returns-in-Err-clause-stays g c = λ form b n e h. event_stays g.M.LineMeaning.rules form b c.args.piece.now n e h

pub returns-in-Err-clause-fed : goal.returns-in-Err-clause-fed
returns-in-Err-clause-fed g c =
    let s = c.args.self.now in
    let u = c.feed_all.new.self in
    let none : c.self.inside.fault ≡ None = search rules in
    let is : s.fault ≡ None = sym (ap (λ (t : ReaderState _ _). t.fault) c.self.view_is) ∙ none in
    let finished : c.self-2.inside.finished ≡ false = ap (λ (t : ReaderState _ _). t.finished) c.self-2.view_is ∙ c.feed_all.ensures.finished ∙ c.requires in
    λ form b n h.
    fed_is g.M.LineMeaning.rules (Some c.in-Err.fault) false form (b ++ c.args.piece.now) n _ refl finished
    (fault_same g.M.LineMeaning.rules c.in-Err.fault form (b ++ c.args.piece.now) n u _
    (record { form_is = ap (λ (t : ReaderState _ _). t.form) c.self-2.view_is; waiting_is = ap (λ (t : ReaderState _ _). t.waiting) c.self-2.view_is })
    (c.in-Err.ensures.err form b n (is_fed g.M.LineMeaning.rules None false form b n s is c.requires h)))
