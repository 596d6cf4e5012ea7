-- How steps of the walk go together.
use Rattle.std.specs.Prelude.{◌<◌, ◌≤◌, ◌⊎◌, ℕ, Bool, true, false, List, [], ◌∷◌, ◌++◌, length}
use Rattle.std.proofs.Common.{◌≡◌, ◌∙◌, ap, append-nil, append_assoc, inl, inr, ltb, refl, subst, sym}
use Rattle.std.proofs.lemmas.Bool.{ltb-false, ltb-true}
use Rattle.std.specs.List.Sorted.{IsStrictlySortedBy}
use Rattle.msc_base.specs.declared.label.Label.{Label}
use Rattle.msc_base.specs.declared.place.Place.{Place}
use Rattle.expansion_tree.specs.Numbered.{Expansion}
use Rattle.choice_parts.specs.ChoiceParts.{ChoiceParts}
use Rattle.choice_terms.specs.JudgedParts.{IsJudgedPart}
use Rattle.chart_choices.specs.declared.choice.Choice.{Choice}
use Rattle.chart_choices.specs.declared.tables.TermTables.{TermTables}
use Rattle.chart_choices.specs.Making.{AddsFound, AddsMakers, AreFound, AreInstancesOf, AreJudged, AreReady, AreRising, EachJudged, IsKept, IsPushed, IsWalked, PartsAdd, no_part, none_found, one_found, part_then, several_found}

-- ---- what is found

module _ (names : List (List ℕ)) (labels : List Label) where
  both_found : {ps qs : List ChoiceParts} {cs ds : List Choice} → AreFound names labels ps cs → AreFound names labels qs ds → AreFound names labels (ps ++ qs) (cs ++ ds)
  both_found none_found i = i
  both_found (several_found h l k) i = several_found h l (both_found k i)
  both_found (one_found h l k) i = one_found h l (both_found k i)

  both_add : {ys zs : List Expansion} {a b c : List (List ℕ)} → PartsAdd names labels ys a b → PartsAdd names labels zs b c → PartsAdd names labels (ys ++ zs) a c
  both_add no_part i = i
  both_add (part_then h k) i = part_then h (both_add k i)

  judged_left : (ps qs : List ChoiceParts) → AreJudged names labels (ps ++ qs) → AreJudged names labels ps
  judged_left [] qs h = tt
  judged_left (p ∷ ps) qs (h, k) = (h, judged_left ps qs k)

  judged_right : (ps qs : List ChoiceParts) → AreJudged names labels (ps ++ qs) → AreJudged names labels qs
  judged_right [] qs h = h
  judged_right (p ∷ ps) qs (h, k) = judged_right ps qs k

  pub each_left : (ys zs : List Expansion) → EachJudged names labels (ys ++ zs) → EachJudged names labels ys
  each_left [] zs h = tt
  each_left (y ∷ ys) zs (h, k) = (h, each_left ys zs k)

  pub each_last : (ys : List Expansion) (z : Expansion) → EachJudged names labels (ys ++ z ∷ []) → IsJudgedPart names labels z
  each_last [] z h = h.0
  each_last (y ∷ ys) z (h, k) = each_last ys z k

-- ---- tables

pub kept_same : (s : TermTables) → AreReady s → IsKept s s
kept_same s h = record { names = refl; labels = refl; ready = h }

kept_both : (s t u : TermTables) → IsKept s t → IsKept t u → IsKept s u
kept_both s t u h k = record { names = k.names ∙ h.names; labels = k.labels ∙ h.labels; ready = k.ready }

-- what is said by the names and labels of the tables, where they are kept
back : (s t : TermTables) (P : List (List ℕ) → List Label → Type 0) → IsKept s t → P t.names t.nets.labels → P s.names s.nets.labels
back s t P k h = subst (λ (ls : List Label). P s.names ls) k.labels (subst (λ (ns : List (List ℕ)). P ns t.nets.labels) k.names h)

pub forth : (s t : TermTables) (P : List (List ℕ) → List Label → Type 0) → IsKept s t → P s.names s.nets.labels → P t.names t.nets.labels
forth s t P k h = subst (λ (ls : List Label). P t.names ls) (sym k.labels) (subst (λ (ns : List (List ℕ)). P ns s.nets.labels) (sym k.names) h)

-- ---- steps

pub walked_none : (s : TermTables) (a : List Choice) → AreReady s → IsWalked s s [] a a
walked_none s a h = record { kept = kept_same s h; found = record { more = []; are = none_found; is = sym (append-nil a) } }

pub walked_both : (s t u : TermTables) (ps qs : List ChoiceParts) (a b c : List Choice) → IsWalked s t ps a b → IsWalked t u qs b c → IsWalked s u (ps ++ qs) a c
walked_both s t u ps qs a b c h k =
    let later : AddsFound s.names s.nets.labels qs b c = back s t (λ ns ls. AddsFound ns ls qs b c) h.kept k.found in
    record {
      kept = kept_both s t u h.kept k.kept;
      found = record {
        more = h.found.more ++ later.more;
        are = both_found s.names s.nets.labels h.found.are later.are;
        is = later.is ∙ (ap (λ (l : List Choice). l ++ later.more) h.found.is ∙ append_assoc a h.found.more later.more);
      };
    }

pub makers_none : (s : TermTables) (a : List (List ℕ)) → AreReady s → AreRising a → AddsMakers s s [] a a
makers_none s a h r = record { kept = kept_same s h; rising = r; parts = no_part }

pub makers_both : (s t u : TermTables) (ys zs : List Expansion) (a b c : List (List ℕ)) → AddsMakers s t ys a b → AddsMakers t u zs b c → AddsMakers s u (ys ++ zs) a c
makers_both s t u ys zs a b c h k = record {
  kept = kept_both s t u h.kept k.kept;
  rising = k.rising;
  parts = both_add s.names s.nets.labels h.parts (back s t (λ ns ls. PartsAdd ns ls zs b c) h.kept k.parts);
}

pub none_rising : (is : List (List ℕ)) → is ≡ [] → AreRising is
unfolding IsStrictlySortedBy
none_rising [] e = tt
none_rising (i ∷ is) e = absurd cc

-- a choice is appended, where several instances make it
few_or_many : (n : ℕ) → (1 < n) ⊎ (n ≤ 1)
few_or_many n = by (ltb 1 n) refl
  where
    by : (t : Bool) → ltb 1 n ≡ t → (1 < n) ⊎ (n ≤ 1)
    by true e = inl (ltb-true 1 n e)
    by false e = inr (ltb-false 1 n e)

pub pushed : (s t : TermTables) (place : Place) (ys : List Expansion) (is : List (List ℕ)) (a b : List Choice) → AddsMakers s t ys [] is → IsPushed place is a b → IsWalked s t (record { place = place; operands = ys } ∷ []) a b
pushed s t place ys is a b h p = record { kept = h.kept; found = by (few_or_many (length is)) }
  where
    of : AreInstancesOf s.names s.nets.labels ys is
    of = record { rising = h.rising; parts = h.parts }

    by : (1 < length is) ⊎ (length is ≤ 1) → AddsFound s.names s.nets.labels (record { place = place; operands = ys } ∷ []) a b
    by (inl l) = record { more = record { place = place; instances = is } ∷ []; are = several_found of l none_found; is = p.several l }
    by (inr l) = record { more = []; are = one_found of l none_found; is = p.one l ∙ sym (append-nil a) }

-- ---- what is left of a walk

-- so far it came to these tables and choices, and what is left is judged: what it comes to is what the whole walk comes to
pub record IsLeft (s : TermTables) (ps : List ChoiceParts) (a : List Choice) (now : TermTables) (rest : List ChoiceParts) (b : List Choice) : Type 0 where
  pub ready : AreReady now
  pub judged : AreJudged now.names now.nets.labels rest
  pub whole : (t : TermTables) (c : List Choice) → IsWalked now t rest b c → IsWalked s t ps a c

pub left_start : (s : TermTables) (ps : List ChoiceParts) (a : List Choice) → AreReady s → AreJudged s.names s.nets.labels ps → IsLeft s ps a s ps a
left_start s ps a h j = record { ready = h; judged = j; whole = λ t c w. w }

pub left_judged : (s : TermTables) (ps : List ChoiceParts) (a : List Choice) (now : TermTables) (qs rest : List ChoiceParts) (b : List Choice) → IsLeft s ps a now (qs ++ rest) b → AreJudged now.names now.nets.labels qs
left_judged s ps a now qs rest b h = judged_left now.names now.nets.labels qs rest h.judged

pub left_step : (s : TermTables) (ps : List ChoiceParts) (a : List Choice) (now : TermTables) (qs rest : List ChoiceParts) (b : List Choice) (next : TermTables) (c : List Choice)
    → IsLeft s ps a now (qs ++ rest) b → IsWalked now next qs b c → IsLeft s ps a next rest c
left_step s ps a now qs rest b next c h w = record {
  ready = w.kept.ready;
  judged = forth now next (λ ns ls. AreJudged ns ls rest) w.kept (judged_right now.names now.nets.labels qs rest h.judged);
  whole = λ t d v. h.whole t d (walked_both now next t qs rest b c d w v);
}

pub left_end : (s : TermTables) (ps : List ChoiceParts) (a : List Choice) (now : TermTables) (b : List Choice) → IsLeft s ps a now [] b → IsWalked s now ps a b
left_end s ps a now b h = h.whole now b (walked_none now b h.ready)

-- the same of instances
pub record IsLeftOf (s : TermTables) (ys : List Expansion) (a : List (List ℕ)) (now : TermTables) (rest : List Expansion) (b : List (List ℕ)) : Type 0 where
  pub ready : AreReady now
  pub rising : AreRising b
  pub judged : EachJudged now.names now.nets.labels rest
  pub whole : (t : TermTables) (c : List (List ℕ)) → AddsMakers now t rest b c → AddsMakers s t ys a c

pub makers_start : (s : TermTables) (ys : List Expansion) (a : List (List ℕ)) → AreReady s → AreRising a → EachJudged s.names s.nets.labels ys → IsLeftOf s ys a s ys a
makers_start s ys a h r j = record { ready = h; rising = r; judged = j; whole = λ t c w. w }

pub makers_step : (s : TermTables) (ys : List Expansion) (a : List (List ℕ)) (now : TermTables) (z : Expansion) (rest : List Expansion) (b : List (List ℕ)) (next : TermTables) (c : List (List ℕ))
    → IsLeftOf s ys a now (z ∷ rest) b → AddsMakers now next (z ∷ []) b c → IsLeftOf s ys a next rest c
makers_step s ys a now z rest b next c h w = record {
  ready = w.kept.ready;
  rising = w.rising;
  judged = forth now next (λ ns ls. EachJudged ns ls rest) w.kept h.judged.1;
  whole = λ t d v. h.whole t d (makers_both now next t (z ∷ []) rest b c d w v);
}

pub makers_end : (s : TermTables) (ys : List Expansion) (a : List (List ℕ)) (now : TermTables) (b : List (List ℕ)) → IsLeftOf s ys a now [] b → AddsMakers s now ys a b
makers_end s ys a now b h = h.whole now b (makers_none now b h.ready h.rising)

-- of a walk from nothing
pub walked_all : (s t : TermTables) (ps : List ChoiceParts) (a b : List Choice) → a ≡ [] → IsWalked s t ps a b → AreFound s.names s.nets.labels ps b
walked_all s t ps a b e w = subst (λ (l : List Choice). AreFound s.names s.nets.labels ps l) (sym (w.found.is ∙ ap (λ (l : List Choice). l ++ w.found.more) e)) w.found.are
