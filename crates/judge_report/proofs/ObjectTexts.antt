-- What is told of an object is its text.
use Rattle.std.proofs.Common.{◌≡◌, ◌∙◌, ℕ, true, false, List, [], ◌∷◌, ◌++◌, codes, refl, ap, append_assoc}
use Rattle.serde_json.specs.Data.{Data}
use Rattle.serde_json.specs.Written.{compact_text, has_float}
use Rattle.serde_json.proofs.OnLiterals.{serde_json_on_literals}
use Rattle.msc_base.specs.declared.verdict.Verdict.{Verdict}
use Rattle.msc_base.specs.declared.verdict.Verdict.TheVariants.{Conforms, Fails, Early, TooLarge}
use Rattle.judge_report.specs.Objects.{accepted_data, fault_data, verdict_data}
use Rattle.judge_report.specs.Texts.{accepted_json, accepted_line, needs_no_escape, told, verdict_json, verdict_line}
use Rattle.judge_report.proofs.PlainWords.{quoted_plain}

no_float_in : (verdict : Verdict) → has_float (verdict_data verdict) ≡ false
no_float_in (Conforms events) = refl
no_float_in (Fails event line) = refl
no_float_in (Early events) = refl
no_float_in (TooLarge event) = refl

pub verdict_no_float : (value : Data) (verdict : Verdict) → value ≡ verdict_data verdict → has_float value ≡ false
verdict_no_float value verdict is = ap has_float is ∙ no_float_in verdict

text_of_verdict : (verdict : Verdict) → compact_text (verdict_data verdict) ≡ verdict_json verdict
unfolding serde_json_on_literals
text_of_verdict (Conforms events) = refl
text_of_verdict (Fails event line) = refl
text_of_verdict (Early events) = refl
text_of_verdict (TooLarge event) = refl

pub verdict_shown : (line : List ℕ) (value : Data) (verdict : Verdict) → value ≡ verdict_data verdict → line ≡ compact_text value ++ 10 ∷ [] → line ≡ verdict_line true verdict
verdict_shown line value verdict is e = e ∙ ap (λ d. compact_text d ++ 10 ∷ []) is ∙ ap (λ t. t ++ 10 ∷ []) (text_of_verdict verdict)

pub accepted_no_float : (value : Data) (charts : ℕ) → value ≡ accepted_data charts → has_float value ≡ false
accepted_no_float value charts is = ap has_float is

text_of_accepted : (charts : ℕ) → compact_text (accepted_data charts) ≡ accepted_json charts
unfolding serde_json_on_literals
text_of_accepted charts = refl

pub accepted_shown : (line : List ℕ) (value : Data) (charts : ℕ) → value ≡ accepted_data charts → line ≡ compact_text value ++ 10 ∷ [] → line ≡ accepted_line true charts
accepted_shown line value charts is e = e ∙ ap (λ d. compact_text d ++ 10 ∷ []) is ∙ ap (λ t. t ++ 10 ∷ []) (text_of_accepted charts)

pub fault_no_float : (value : Data) (words : List ℕ) → value ≡ fault_data words → has_float value ≡ false
fault_no_float value words is = ap has_float is

text_of_fault : (words : List ℕ) → needs_no_escape words ≡ true → compact_text (fault_data words) ≡ codes "{\"fault\":\"" ++ (words ++ codes "\"}")
unfolding serde_json_on_literals
text_of_fault words h =
    ap (λ t. codes "{\"fault\":" ++ (t ++ 125 ∷ [])) (quoted_plain words h) ∙ ap (λ t. codes "{\"fault\":\"" ++ t) (append_assoc words (34 ∷ []) (125 ∷ []))

pub fault_shown : (line : List ℕ) (value : Data) (words : List ℕ) → needs_no_escape words ≡ true → value ≡ fault_data words → line ≡ compact_text value ++ 10 ∷ [] → line ≡ told true words
fault_shown line value words h is e = e ∙ ap (λ d. compact_text d ++ 10 ∷ []) is ∙ ap (λ t. t ++ 10 ∷ []) (text_of_fault words h)
