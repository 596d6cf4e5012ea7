-- A step of a set, by the number that the label of the event has in the tables, or none where they lack it; and its faults.
use Rattle.std.specs.Prelude.{ℕ, ◌≡◌, Option}
use Rattle.msc_base.specs.declared.label.Label.{Label}
use Rattle.term_tables.specs.NetValues.{NetsValue, label_number}
use Rattle.trace_judge.specs.Sets.{SetValue, IsNextSet, IsTooLarge}
use Rattle.trace_judge.specs.declared.store.StepFault.{StepFault}
use Rattle.trace_judge.specs.declared.store.StepFault.TheVariants.{TooLarge, NoMemory}

-- it is the number of some label, or stands for one that the tables lack
pub record IsNumber (v : NetsValue) (number : Option ℕ) : Type 0 where
  pub label : Label
  pub is : number ≡ label_number v.labels label

-- so it is for each label with this number, or for each that the tables lack
abbrev pub ForLabels : NetsValue → Option ℕ → (Label → Type 0) → Type 0
ForLabels v number P = (label : Label) → number ≡ label_number v.labels label → P label

-- what stands behind each fault of a step
abbrev pub IsStepFault : StepFault → NetsValue → Option ℕ → SetValue → SetValue → Type 0
IsStepFault TooLarge v number old new = ForLabels v number (λ label. IsTooLarge v label old new)
IsStepFault NoMemory v number old new = new ≡ old
