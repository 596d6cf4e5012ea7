-- Sets of residual terms tell the runs of the term.
use Rattle.std.specs.Prelude.{◌≡◌, ◌↔◌, Bool, IsTrue, List, [], ◌∷◌, ◌++◌, length, refl}
use Rattle.std.proofs.Common.{subst, inl}
use Rattle.msc_base.specs.declared.label.Label.{Label}
use Rattle.term_tables.specs.NetValues.{NetsValue}
use Rattle.chart_term.specs.TermPatterns.{Both}
use Rattle.chart_term.specs.Terms.{Tree}
use Rattle.msc_base.specs.Lists.{IsAmong}
use Rattle.term_laws.specs.Sound.{IsSound}
use Rattle.term_laws.proofs.FullSound.{full_soundness_is_kept}
use Rattle.term_laws.proofs.SoundLaws.{residuals_are_exact}
use Rattle.trace_judge.specs.Laws.{SetsTellNextLabels, SetsTellRuns}
use Rattle.trace_judge.specs.Logs.{IsLeft, AreResiduals, BeginsTermRun, IsTermRun}
use Rattle.trace_judge.specs.Sets.{IsSoundFor, GoesOnWith, HasEnding}
use Rattle.trace_judge.specs.Verdicts.{LeavesSome, LeavesEnding}
use Rattle.trace_judge.proofs.Lefts.{left_more, left_last}

sound_of : (v : NetsValue) (x : Tree) → IsSoundFor v x → IsSound v.tables x
sound_of v x h = full_soundness_is_kept.suffices (length v.labels) v.tables x h.full

pub left_begins : (v : NetsValue) (x y : Tree) (l : List Label) → IsSoundFor v x → IsLeft v x l y → BeginsTermRun v x l
left_begins v x y l h i = record {
  numbers = i.numbers;
  are = i.are;
  begins = (residuals_are_exact.begins v.tables x i.numbers (sound_of v x h)).to (record { term = y; left = i.left });
}

pub begins_left : (v : NetsValue) (x : Tree) (l : List Label) → IsSoundFor v x → BeginsTermRun v x l → LeavesSome v x l
begins_left v x l h b = let r = (residuals_are_exact.begins v.tables x b.numbers (sound_of v x h)).from b.begins in record { term = r.term; left = record { numbers = b.numbers; are = b.are; left = r.left } }

none_empty : (v : NetsValue) (x : Tree) (l : List Label) (set : List Tree) → AreResiduals v x l set → ((y : Tree) → IsLeft v x l y → ⊥) → set ≡ []
none_empty v x l [] r f = refl
none_empty v x l (y ∷ ys) r f = absurd (f y ((r.exact y).to (inl refl)))

empty_none : (set : List Tree) (y : Tree) → set ≡ [] → IsAmong set y → ⊥
empty_none set y e i = subst (λ (s : List Tree). IsAmong s y) e i

pub sets_tell_runs : SetsTellRuns
sets_tell_runs = record {
  empty = λ v x l set h r. record {
    to = λ e b. let i = begins_left v x l h b in empty_none set i.term e ((r.exact i.term).from i.left);
    from = λ f. none_empty v x l set r (λ y i. f (left_begins v x y l h i));
  };
  ends = λ v x l set h r. record {
    to = λ e. let i = (r.exact e.term).to e.held in record {
      numbers = i.numbers;
      are = i.are;
      run = (residuals_are_exact.ends v.tables x i.numbers (sound_of v x h)).to (record { term = e.term; left = i.left; ends = e.ends });
    };
    from = λ f. let e = (residuals_are_exact.ends v.tables x f.numbers (sound_of v x h)).from f.run in record {
      term = e.term;
      held = (r.exact e.term).from (record { numbers = f.numbers; are = f.are; left = e.left });
      ends = e.ends;
    };
  };
}

goes_on : (v : NetsValue) (x : Tree) (l : List Label) (a : Label) (set : List Tree) → IsSoundFor v x → AreResiduals v x l set → GoesOnWith v a set → BeginsTermRun v x (l ++ a ∷ [])
goes_on v x l a set h r g = left_begins v x g.term (l ++ a ∷ []) h (left_more v x g.left.term g.term l a ((r.exact g.left.term).to g.left.held) g.left.left)

begins_on : (v : NetsValue) (x : Tree) (l : List Label) (a : Label) (set : List Tree) → IsSoundFor v x → AreResiduals v x l set → BeginsTermRun v x (l ++ a ∷ []) → GoesOnWith v a set
begins_on v x l a set h r b =
    let i = begins_left v x (l ++ a ∷ []) h b in
    let last = left_last v x i.term l a i.left in
    record { term = i.term; left = record { term = last.term; held = (r.exact last.term).from last.left; left = last.after } }

pub sets_tell_next_labels : SetsTellNextLabels
sets_tell_next_labels v x l a set h r = record { to = goes_on v x l a set h r; from = begins_on v x l a set h r }

pub ending_run : (v : NetsValue) (x : Tree) (l : List Label) → IsSoundFor v x → LeavesEnding v x l → IsTermRun v x l
ending_run v x l h e = record {
  numbers = e.left.numbers;
  are = e.left.are;
  run = (residuals_are_exact.ends v.tables x e.left.numbers (sound_of v x h)).to (record { term = e.term; left = e.left.left; ends = e.ends });
}

pub run_ending : (v : NetsValue) (x : Tree) (l : List Label) → IsSoundFor v x → IsTermRun v x l → LeavesEnding v x l
run_ending v x l h f = let e = (residuals_are_exact.ends v.tables x f.numbers (sound_of v x h)).from f.run in record {
  term = e.term;
  left = record { numbers = f.numbers; are = f.are; left = e.left };
  ends = e.ends;
}

-- something is left exactly where a run of the term begins so, and something that may end exactly where the labels are a run
pub left_exact : (v : NetsValue) (x : Tree) → IsSoundFor v x → (l : List Label) → Both (LeavesSome v x l) (BeginsTermRun v x l)
left_exact v x h l = record { to = λ i. left_begins v x i.term l h i.left; from = begins_left v x l h }

pub ending_exact : (v : NetsValue) (x : Tree) → IsSoundFor v x → (l : List Label) → Both (LeavesEnding v x l) (IsTermRun v x l)
ending_exact v x h l = record { to = ending_run v x l h; from = run_ending v x l h }

-- what tests of a set tell
pub tells_empty : (v : NetsValue) (x : Tree) (l : List Label) (set : List Tree) (b : Bool) → (IsTrue b ↔ (set ≡ [])) → IsSoundFor v x → AreResiduals v x l set → IsTrue b ↔ (BeginsTermRun v x l → ⊥)
tells_empty v x l set b e h r = let t = sets_tell_runs.empty v x l set h r in (λ u. t.to (e.0 u), λ f. e.1 (t.from f))

pub tells_ends : (v : NetsValue) (x : Tree) (l : List Label) (set : List Tree) (b : Bool) → (IsTrue b ↔ HasEnding v set) → IsSoundFor v x → AreResiduals v x l set → IsTrue b ↔ IsTermRun v x l
tells_ends v x l set b e h r = let t = sets_tell_runs.ends v x l set h r in (λ u. t.to (e.0 u), λ f. e.1 (t.from f))
