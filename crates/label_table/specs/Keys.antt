-- The keys under which labels are found: the numbers of their names and texts.
use Rattle.std.specs.Prelude.{ℕ, ◌≡◌, ◌<◌, List, Option, Some}
use Rattle.std.specs.BTreeMap.{BTreeMap, btree_map_len, get_by}
use Rattle.std.specs.Cmp.Lexicographic.{slice_cmp}
use Rattle.std.specs.Ordering.{nat_cmp}
use Rattle.std.specs.declared.alloc.Global.{Global}
use Rattle.std.specs.declared.vec.Vec.{Vec}
use Rattle.msc_base.specs.declared.label.Far.{Far}
use Rattle.msc_base.specs.declared.label.Far.TheVariants.{Nobody, Env, Instance}
use Rattle.msc_base.specs.declared.label.Kind.{Kind}
use Rattle.msc_base.specs.declared.label.Kind.TheVariants.{Output, Input, OutputLost, InputFound, Action, TimerStart, TimerStop, Timeout, Create}
use Rattle.msc_base.specs.declared.label.Label.{Label}
use Rattle.label_table.specs.declared.key.FarKey.{FarKey}
use Rattle.label_table.specs.declared.key.FarKey.TheVariants.{Nobody as NobodyKey, Env as EnvKey, Instance as InstanceKey}
use Rattle.label_table.specs.declared.key.LabelKey.{LabelKey}

-- texts and their numbers
abbrev pub TextNumbers : Type 0
TextNumbers = BTreeMap (Vec ℕ Global) ℕ

-- the number of a text
abbrev pub text_number : TextNumbers → List ℕ → Option ℕ
text_number texts text = get_by (λ key. slice_cmp nat_cmp text key.items) texts

abbrev pub IsNumbered : TextNumbers → List ℕ → ℕ → Type 0
IsNumbered texts text n = text_number texts text ≡ Some n

-- the numbers are below the count of the texts, and each has one text
pub record AreTextNumbers (texts : TextNumbers) : Type 0 where
  pub below : (text : List ℕ) (n : ℕ) → IsNumbered texts text n → n < btree_map_len texts
  pub once : (a b : List ℕ) (n : ℕ) → IsNumbered texts a n → IsNumbered texts b n → a ≡ b

-- each text keeps its number
abbrev pub KeepsNumbers : TextNumbers → TextNumbers → Type 0
KeepsNumbers old new = (text : List ℕ) (n : ℕ) → IsNumbered old text n → IsNumbered new text n

-- the place of a kind in the declaration of kinds
abbrev pub rank : Kind → ℕ
rank Output = 0
rank Input = 1
rank OutputLost = 2
rank InputFound = 3
rank Action = 4
rank TimerStart = 5
rank TimerStop = 6
rank Timeout = 7
rank Create = 8

-- the key of a far end
abbrev pub IsFarKey : TextNumbers → Far → FarKey → Type 0
IsFarKey texts Nobody NobodyKey = Unit {0}
IsFarKey texts Env EnvKey = Unit {0}
IsFarKey texts (Instance a) (InstanceKey n) = IsNumbered texts a n
IsFarKey texts _ _ = ⊥

-- the key of a label
pub record IsKey (texts : TextNumbers) (l : Label) (k : LabelKey) : Type 0 where
  pub at : IsNumbered texts l.at k.at
  pub kind : rank l.kind ≡ k.kind
  pub text : IsNumbered texts l.text k.text
  pub far : IsFarKey texts l.far k.far
