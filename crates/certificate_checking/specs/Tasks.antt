-- Serves private contracts alone.
-- What is to be read yet, and what one step makes of it.
use Rattle.std.specs.Prelude.{ℕ, Bool, true, false, ◌≡◌, ◌↔◌, List, [], ◌∷◌, ◌++◌, Option, Some, None, length}
use Rattle.std.specs.Option.{option_to_list}
use Rattle.msc_base.specs.Patterns.{Mode, seq, par}
use Rattle.hmsc_graph.specs.Spots.{spot_of}
use Rattle.chart_term.specs.TermMeanings.{NetTerms}
use Rattle.chart_term.specs.Terms.{Tree}
use Rattle.certificates.specs.Lines.{Line}
use Rattle.empty_terms.specs.Answers.{AreToldFrom}
use Rattle.empty_terms.specs.Outlines.{IsAt, AreFrom, IsOutline}
use Rattle.empty_terms.specs.declared.outline.Outline.{Outline}
use Rattle.chart_term.specs.Tables.{Tables, terms_over}
use Rattle.pattern_marks.specs.Marks.{Sign, turns, closes, sign_of, signs_of}
use Rattle.certificate_checking.specs.Showing.{IsShown, AreShown, AreTurnsShown, AreStopsShown, Splits}
use Rattle.certificate_checking.specs.declared.step.Step.{Step}
use Rattle.certificate_checking.specs.declared.step.Task.{Task}
use Rattle.certificate_checking.specs.declared.step.Task.TheVariants as task

module _ (w : NetTerms) (ts : List Tree) where
  -- so many terms from this number on
  pub record HaveParts (first count : ℕ) (P : List Tree → Type 0) : Type 0 where
    pub parts : List Tree
    pub many : length parts ≡ count
    pub there : AreFrom ts first parts
    pub have : P parts

  -- the signs between the second part's begin and its end
  pub record Between (P : List Sign → Type 0) (ms : List Sign) : Type 0 where
    pub inner : List Sign
    pub have : P inner
    pub told : ms ≡ turns ∷ (inner ++ closes ∷ [])

  -- what a task takes of the lines, and the signs that it gives
  abbrev pub Wants : Task → List Line → List Sign → Type 0
  Wants (task.Term k) ls ms = (x : Tree) × IsAt ts k x × IsShown w x ls ms
  Wants (task.Row f n) ls ms = HaveParts f n (λ xs. AreShown w seq xs ls ms)
  Wants (task.Beside f n) ls ms = HaveParts f n (λ xs. AreShown w par xs ls ms)
  Wants (task.Others f n) ls ms = Between (λ inner. HaveParts f n (λ xs. AreShown w par xs ls inner)) ms
  Wants (task.Turns k n) ls ms = (x : Tree) × IsAt ts k x × AreTurnsShown w x n ls ms
  Wants (task.Stops net f n) ls ms = AreStopsShown w net (spot_of f) n ls ms
  Wants (task.Mark m) ls ms = (ls ≡ []) × (ms ≡ sign_of ts m ∷ [])

  -- what tasks take, of which the last comes first
  abbrev pub Owes : List Task → List Line → List Sign → Type 0
  Owes [] ls ms = (ls ≡ []) × (ms ≡ [])
  Owes (t ∷ above) ls ms = Splits (Owes above) (Wants t) ls ms

  -- the signs of the step, and what it leaves
  pub record Becomes (s : Step) (ls : List Line) (ms : List Sign) : Type 0 where
    pub rest : List Sign
    pub told : ms ≡ signs_of ts (option_to_list s.mark) ++ rest
    pub owes : Owes (option_to_list s.then ++ option_to_list s.first) ls rest

  -- a task that wants no line becomes what the step says; or nothing can be what it takes
  abbrev pub IsQuietStep : Task → Option Step → Type 0
  IsQuietStep t None = (ls : List Line) (ms : List Sign) → Wants t ls ms → ⊥
  IsQuietStep t (Some s) = (ls : List Line) (ms : List Sign) → Wants t ls ms ↔ Becomes s ls ms

  -- a task that wants a line becomes that by this line
  abbrev pub IsStepBy : Task → Line → Option Step → Type 0
  IsStepBy t l None = (ls : List Line) (ms : List Sign) → Wants t (l ∷ ls) ms → ⊥
  IsStepBy t l (Some s) = (ls : List Line) (ms : List Sign) → Wants t (l ∷ ls) ms ↔ Becomes s ls ms

  -- the signs that are told, and then what is owed
  abbrev pub Still : List Sign → List Task → List Line → List Sign → Type 0
  Still told tasks ls ms = (rest : List Sign) × (ms ≡ told ++ rest) × Owes tasks ls rest

  -- from the lines before to those that are left the task becomes what the step says, whatever tasks are below it
  abbrev pub GoesOn : Task → List Line → List Line → Option Step → Type 0
  GoesOn t before left None = (tasks : List Task) (ms : List Sign) → Owes (tasks ++ t ∷ []) before ms → ⊥
  GoesOn t before left (Some s) = (tasks : List Task) (ms : List Sign) → Owes (tasks ++ t ∷ []) before ms ↔ Still (signs_of ts (option_to_list s.mark)) (tasks ++ (option_to_list s.then ++ option_to_list s.first)) left ms

-- the task of a join's parts
abbrev pub row_of : Mode → ℕ → ℕ → Task
row_of seq f n = task.Row f n
row_of par f n = task.Beside f n

-- the tasks that begin with a line
abbrev pub wants_line : Task → Bool
wants_line (task.Term k) = true
wants_line (task.Row f n) = false
wants_line (task.Beside f n) = false
wants_line (task.Others f n) = false
wants_line (task.Turns k n) = false
wants_line (task.Stops net f n) = true
wants_line (task.Mark m) = false

-- the outline of a term, and answers for all its parts
pub record IsSure (w : Tables) (o : Outline) (bs : List Bool) : Type 0 where
  pub term : Tree
  pub outline : IsOutline w term o
  pub count : length bs ≡ length o.terms
  pub told : AreToldFrom (terms_over w) o.terms bs 0
