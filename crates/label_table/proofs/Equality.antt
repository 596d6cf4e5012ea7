-- The test of equality of labels is exact.
use Rattle.std.specs.Prelude.{◌&&◌}
use Rattle.std.proofs.Common.{◌≡◌, true, List, ℕ, refl, ap, subst}
use Rattle.std.proofs.lemmas.Slice.Eq.{bytes_eq-Decides}
use Rattle.std.specs.Str.{bytes_eq}
use Rattle.std.proofs.lemmas.Bool.{and_parts, and_from}
use Rattle.msc_base.specs.declared.label.Far.{Far}
use Rattle.msc_base.specs.declared.label.Far.TheVariants.{Nobody, Env, Instance}
use Rattle.msc_base.specs.declared.label.Kind.{Kind}
use Rattle.msc_base.specs.declared.label.Kind.TheVariants.{Output, Input, OutputLost, InputFound, Action, TimerStart, TimerStop, Timeout, Create}
use Rattle.msc_base.specs.declared.label.Label.{Label}
use Rattle.label_table.specs.Labels.{same_kind, same_far, same_label, SameLabelIsExact}

kind_is : (a b : Kind) → same_kind a b ≡ true → a ≡ b
kind_is Output Output h = refl
kind_is Input Input h = refl
kind_is OutputLost OutputLost h = refl
kind_is InputFound InputFound h = refl
kind_is Action Action h = refl
kind_is TimerStart TimerStart h = refl
kind_is TimerStop TimerStop h = refl
kind_is Timeout Timeout h = refl
kind_is Create Create h = refl
kind_is _ _ h = cc

kind_self : (a : Kind) → same_kind a a ≡ true
kind_self Output = refl
kind_self Input = refl
kind_self OutputLost = refl
kind_self InputFound = refl
kind_self Action = refl
kind_self TimerStart = refl
kind_self TimerStop = refl
kind_self Timeout = refl
kind_self Create = refl

pub bytes_self : (a : List ℕ) → bytes_eq a a ≡ true
bytes_self a = (bytes_eq-Decides a a).1 refl

far_is : (a b : Far) → same_far a b ≡ true → a ≡ b
far_is Nobody Nobody h = refl
far_is Env Env h = refl
far_is (Instance a) (Instance b) h = ap Instance ((bytes_eq-Decides a b).0 h)
far_is _ _ h = cc

far_self : (a : Far) → same_far a a ≡ true
far_self Nobody = refl
far_self Env = refl
far_self (Instance a) = bytes_self a

pub parts_are : {a b : Label} → a.at ≡ b.at → a.kind ≡ b.kind → a.text ≡ b.text → a.far ≡ b.far → a ≡ b
parts_are at kind text far = λ i. record { at = at i; kind = kind i; text = text i; far = far i }

label_is : (a b : Label) → same_label a b ≡ true → a ≡ b
label_is a b h =
    let halves = and_parts (bytes_eq a.at b.at && same_kind a.kind b.kind) (bytes_eq a.text b.text && same_far a.far b.far) h in
    let first = and_parts (bytes_eq a.at b.at) (same_kind a.kind b.kind) halves.0 in
    let second = and_parts (bytes_eq a.text b.text) (same_far a.far b.far) halves.1 in
    parts_are ((bytes_eq-Decides a.at b.at).0 first.0) (kind_is a.kind b.kind first.1) ((bytes_eq-Decides a.text b.text).0 second.0) (far_is a.far b.far second.1)

pub label_self : (a : Label) → same_label a a ≡ true
label_self a =
    and_from (bytes_eq a.at a.at && same_kind a.kind a.kind) (bytes_eq a.text a.text && same_far a.far a.far) (and_from (bytes_eq a.at a.at) (same_kind a.kind a.kind) (bytes_self a.at) (kind_self a.kind)) (and_from (bytes_eq a.text a.text) (same_far a.far a.far) (bytes_self a.text) (far_self a.far))

pub same_label_is_exact : SameLabelIsExact
same_label_is_exact = record {
  sound = label_is;
  whole = λ a b h. subst (λ l. same_label a l ≡ true) h (label_self a);
}
