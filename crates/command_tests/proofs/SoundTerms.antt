-- Terms of the tests are sound, and their events stand where their labels do.
use Rattle.std.specs.Prelude.{ℕ, ◌≡◌, ◌<◌, List, [], ◌∷◌, ◌++◌, length}
use Rattle.std.proofs.Common.{ap, sym, ◌∙◌, subst}
use Rattle.msc_base.specs.Patterns.{par}
use Rattle.msc_base.specs.declared.label.Label.{Label}
use Rattle.term_tables.specs.NetValues.{NetsValue}
use Rattle.chart_term.specs.NormalForms.{join_all}
use Rattle.chart_term.specs.Properties.{Each}
use Rattle.chart_term.specs.Tables.{Tables}
use Rattle.chart_term.specs.Terms.{TermEvent, Tree, Event}
use Rattle.term_laws.specs.FullSoundness.{IsSoundNode, IsFullySound}
use Rattle.term_laws.specs.Permission.{permits_of}
use Rattle.term_laws.specs.Placing.{AreEventsPlaced, AreNetsPlaced, IsPlaced}
use Rattle.term_laws.proofs.Placed.{join-placed}
use Rattle.term_laws.proofs.SoundForms.{constructors_keep_soundness}
use Rattle.term_laws.proofs.TidyTables.{each_map}
use Rattle.trace_judge.specs.Sets.{IsSoundFor}
use Rattle.command_tests.specs.Samples.{places, IsSample}

pub sample_event : (x : Tree) (e : TermEvent) → x ≡ Event e → e.label < 2 → IsPlaced places e → IsSample x
sample_event x e q l p = subst IsSample (sym q) (record { sound = constructors_keep_soundness.event 2 [] e l; placed = p })

pub sample_aside : (x : Tree) (xs : List Tree) → x ≡ join_all par xs → Each IsSample xs → IsSample x
sample_aside x xs q h = subst IsSample (sym q) (record {
  sound = constructors_keep_soundness.join 2 [] par xs tt (each_map IsSample (IsSoundNode 2 []) (λ y i. i.sound) xs h);
  placed = join-placed places (permits_of []) par xs (each_map IsSample (AreEventsPlaced places) (λ y i. i.placed) xs h);
})

pub each_more : (xs ys : List Tree) (x : Tree) → ys ≡ xs ++ x ∷ [] → Each IsSample xs → IsSample x → Each IsSample ys
each_more xs ys x q h i = subst (Each IsSample) (sym q) (go xs h)
  where
    go : (zs : List Tree) → Each IsSample zs → Each IsSample (zs ++ x ∷ [])
    go [] j = (i, tt)
    go (z ∷ zs) j = (j.0, go zs j.1)

pub each_none : (xs : List Tree) → xs ≡ [] → Each IsSample xs
each_none xs q = subst (Each IsSample) (sym q) tt

-- over tables of two labels and no net
pub sound_here : (v : NetsValue) (x : Tree) → v.tables ≡ [] → length v.labels ≡ 2 → IsSample x → IsSoundFor v x
sound_here v x t n h = record {
  full = subst (λ (w : Tables). IsFullySound (length v.labels) w x) (sym t) (subst (λ (m : ℕ). IsFullySound m [] x) (sym n) (record { nets = tt; term = h.sound.sound }));
  placed = record { places = places; nets = subst (AreNetsPlaced places) (sym t) tt; term = h.placed };
}

pub two_labels : (o p q : NetsValue) (a b : Label) → o ≡ record { labels = []; tables = [] } → p ≡ record o { labels = o.labels ++ a ∷ [] } → q ≡ record p { labels = p.labels ++ b ∷ [] } → length q.labels ≡ 2
two_labels o p q a b d e f =
    let l : q.labels ≡ a ∷ b ∷ [] = ap (λ (v : NetsValue). v.labels) f ∙ ap (λ (v : NetsValue). v.labels ++ b ∷ []) e ∙ ap (λ (v : NetsValue). (v.labels ++ a ∷ []) ++ b ∷ []) d in
    ap (λ (m : List Label). length m) l

pub ruleset samples = (sample_event, sample_aside, each_more, each_none, sound_here, two_labels)
