-- When labels are equal, and the number of a label in a list.
use Rattle.std.specs.Prelude.{ℕ, Bool, true, false, List, Option, ◌&&◌, ◌≡◌, position}
use Rattle.std.specs.Str.{bytes_eq}
use Rattle.msc_base.specs.declared.label.Far.{Far}
use Rattle.msc_base.specs.declared.label.Far.TheVariants.{Nobody, Env, Instance}
use Rattle.msc_base.specs.declared.label.Kind.{Kind}
use Rattle.msc_base.specs.declared.label.Kind.TheVariants.{Output, Input, OutputLost, InputFound, Action, TimerStart, TimerStop, Timeout, Create}
use Rattle.msc_base.specs.declared.label.Label.{Label}

-- both do the same
abbrev pub same_kind : Kind → Kind → Bool
same_kind Output Output = true
same_kind Input Input = true
same_kind OutputLost OutputLost = true
same_kind InputFound InputFound = true
same_kind Action Action = true
same_kind TimerStart TimerStart = true
same_kind TimerStop TimerStop = true
same_kind Timeout Timeout = true
same_kind Create Create = true
same_kind _ _ = false

-- neither has a far end, both are the environment, or both the same instance
abbrev pub same_far : Far → Far → Bool
same_far Nobody Nobody = true
same_far Env Env = true
same_far (Instance a) (Instance b) = bytes_eq a b
same_far _ _ = false

-- all four parts are equal
abbrev pub same_label : Label → Label → Bool
same_label a b = (bytes_eq a.at b.at && same_kind a.kind b.kind) && (bytes_eq a.text b.text && same_far a.far b.far)

-- the place of the first equal label
abbrev pub label_number : List Label → Label → Option ℕ
label_number labels l = position (same_label l) labels

-- the test is exact
pub record SameLabelIsExact : Type 0 where
  pub sound : (a b : Label) → same_label a b ≡ true → a ≡ b
  pub whole : (a b : Label) → a ≡ b → same_label a b ≡ true
