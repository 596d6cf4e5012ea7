-- What is found of the parts that the choices of a chart come to are the choices that several instances make.
use Rattle.std.specs.Prelude.{◌⊎◌, ℕ, List, ◌∷◌}
use Rattle.std.proofs.Common.{inl, inr, subst}
use Rattle.msc_base.specs.declared.label.Label.{Label}
use Rattle.msc_base.specs.declared.place.Place.{Place}
use Rattle.msc_base.specs.Lists.{IsAmong}
use Rattle.msc_base.specs.Orders.{Among, first, later}
use Rattle.chart_term.specs.TermPatterns.{Both}
use Rattle.msc_meaning.specs.Tables.{Table}
use Rattle.expansion_tree.specs.Numbered.{Expansion}
use Rattle.choice_meaning.specs.ChoiceLists.{AreMade, AreMakersInOrder, by_one, by_several, no_choice}
use Rattle.choice_meaning.specs.Choices.{Choice, Operand}
use Rattle.choice_meaning.specs.FirstInstances.{BeginsAt}
use Rattle.choice_parts.specs.ChoiceParts.{ChoiceParts}
use Rattle.choice_terms.specs.JudgedParts as judged
use Rattle.choice_terms.specs.JudgedParts.{AreChoiceParts, AreOperandParts, IsOperandPart, choice_and, no_operand, operand_and}
use Rattle.chart_choices.specs.declared.choice.Choice as found
use Rattle.chart_choices.specs.Listed.{made_choices}
use Rattle.chart_choices.specs.Making.{AreFound, AreInstancesOf, AreJudged, EachJudged, PartsAdd, no_part, none_found, one_found, part_then, several_found}

module _ (names : List (List ℕ)) (labels : List Label) (table : Table) where
  -- one of the operands may begin at the instance
  pub record SomeBegins (os : List Operand) (i : List ℕ) : Type 0 where
    pub operand : Operand
    pub among : Among operand os
    pub begins : BeginsAt table operand i

  begins_later : (o : Operand) (os : List Operand) (i : List ℕ) → SomeBegins os i → SomeBegins (o ∷ os) i
  begins_later o os i h = record { operand = h.operand; among = later h.among; begins = h.begins }

  first_or : (o : Operand) (os : List Operand) (i : List ℕ) → SomeBegins (o ∷ os) i → BeginsAt table o i ⊎ SomeBegins os i
  first_or o os i h = by h.operand h.among h.begins
    where
      by : (q : Operand) → Among q (o ∷ os) → BeginsAt table q i → BeginsAt table o i ⊎ SomeBegins os i
      by _ first b = inl b
      by q (later j) b = inr (record { operand = q; among = j; begins = b })

  -- the instances that are added are those at which an operand may begin
  parts_tell : {os : List Operand} {ys : List Expansion} {a b : List (List ℕ)} → AreOperandParts names labels table os ys → PartsAdd names labels ys a b → (i : List ℕ) → Both (IsAmong b i) (IsAmong a i ⊎ SomeBegins os i)
  parts_tell no_operand no_part i = record { to = λ h. inl h; from = λ h. elim h [ inl j ↦ j | inr s ↦ elim s.among [ ] ] }
  parts_tell (operand_and {o = o} {os = os} h hs) (part_then {a = a} {b = b} {c = c} k ks) i =
      let rest : Both (IsAmong c i) (IsAmong b i ⊎ SomeBegins os i) = parts_tell hs ks i in
      let here = k.exact i in
      let told = h.begins k.tables k.fit i in
      record {
        to = λ j. elim (rest.to j) [
          | inl m ↦ elim (here.to m) [
            | inl n ↦ inl n
            | inr g ↦ inr (record { operand = o; among = first; begins = told.from g })
          ]
          | inr s ↦ inr (begins_later o os i s)
        ];
        from = λ j. rest.from (elim j [
          | inl n ↦ inl (here.from (inl n))
          | inr s ↦ elim (first_or o os i s) [
            | inl q ↦ inl (here.from (inr (told.to q)))
            | inr m ↦ inr m
          ]
        ]);
      }

  makers_told : (c : Choice) (ys : List Expansion) (is : List (List ℕ)) → AreOperandParts names labels table c.operands ys → AreInstancesOf names labels ys is → AreMakersInOrder table c is
  makers_told c ys is h k = record {
    exact = λ i. (
      (λ j. elim ((parts_tell h k.parts i).to j) [ inl n ↦ absurd n | inr s ↦ record { operand = s.operand; among = s.among; begins = s.begins } ]),
      (λ m. (parts_tell h k.parts i).from (inr (record { operand = m.operand; among = m.among; begins = m.begins }))),
    );
    rising = k.rising;
  }

  pub found_made : {cs : List Choice} {ps : List ChoiceParts} {ms : List found.Choice} → AreChoiceParts names labels table cs ps → AreFound names labels ps ms → AreMade table cs (made_choices ms)
  found_made judged.no_choice none_found = no_choice
  found_made (choice_and {c = c} {p = p} {cs = cs} e h hs) (several_found {is = is} {cs = ms} k l ks) =
      subst (λ (place : Place). AreMade table (c ∷ cs) (record { place = place; instances = is } ∷ made_choices ms)) e (by_several (makers_told c p.operands is h k) l (found_made hs ks))
  found_made (choice_and {c = c} {p = p} {cs = cs} e h hs) (one_found {is = is} {cs = ms} k l ks) = by_one (makers_told c p.operands is h k) l (found_made hs ks)

  -- the parts of choices are judged
  each_judged : {os : List Operand} {ys : List Expansion} → AreOperandParts names labels table os ys → EachJudged names labels ys
  each_judged no_operand = tt
  each_judged (operand_and h hs) = (h.judged, each_judged hs)

  pub are_judged : {cs : List Choice} {ps : List ChoiceParts} → AreChoiceParts names labels table cs ps → AreJudged names labels ps
  are_judged judged.no_choice = tt
  are_judged (choice_and e h hs) = (each_judged h, are_judged hs)
