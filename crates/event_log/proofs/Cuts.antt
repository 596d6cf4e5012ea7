-- How the lines of a text grow with it.
use Rattle.std.proofs.Common.{◌≡◌, ◌≢◌, ◌<◌, ◌≤◌, ◌+◌, ◌++◌, Bool, true, false, List, ℕ, length, [], ◌∷◌, All, arith, sym, refl, ap, ◌∙◌, take, nat_eq, nat_le, subst, append-nil, append_assoc, length-append, inl, inr, ◌-◌}
use Rattle.std.proofs.lemmas.List.Elements.{All-tail}
use Rattle.std.proofs.lemmas.Grind.{common_steps}
use Rattle.std.proofs.lemmas.Bool.{cases_lt}
use Rattle.std.proofs.lemmas.Bool.Decides.{nat_tests}
use Rattle.msc_base.specs.declared.limits.TheConstants.Limits.{LINE_BYTES, LOG_BYTES}
use Rattle.list_facts.proofs.Reading.{take_over}
use Rattle.event_log.specs.Lines.{Cut, with_byte, with_bytes, nothing_cut, cut_of, last_line, long_line, decided_tail, decided, is_within, lines_of}

not_ten : (b : ℕ) → b ≢ 10 → nat_eq b 10 ≡ false
not_ten b e = grind (arith, nat_tests)

-- the text behind another goes on from where that one stands
pub with_append : (c : Cut) (a b : List ℕ) → with_bytes c (a ++ b) ≡ with_bytes (with_bytes c a) b
with_append c [] b = refl
with_append c (x ∷ a) b = with_append (with_byte c x) a b

same_cut : (e : List (List ℕ)) (t u : List ℕ) → t ≡ u → ◌≡◌ {A = Cut} (record { ended = e; tail = t }) (record { ended = e; tail = u })
same_cut e t u h = cc

-- bytes without a line end belong to the line
pub with_free : (c : Cut) (f : List ℕ) → All (λ b. b ≢ 10) f → with_bytes c f ≡ record { ended = c.ended; tail = c.tail ++ f }
with_free c [] free = same_cut c.ended c.tail (c.tail ++ []) (sym (append-nil c.tail))
with_free c (b ∷ f) free =
    let t : nat_eq b 10 ≡ false = not_ten b (free 0 b (omega arith)) in
    let step : with_byte c b ≡ record { ended = c.ended; tail = c.tail ++ b ∷ [] } = rw t refl in
    ap (λ (d : Cut). with_bytes d f) step
    ∙ with_free (record { ended = c.ended; tail = c.tail ++ b ∷ [] }) f (All-tail (λ x. x ≢ 10) b f free)
    ∙ same_cut c.ended ((c.tail ++ b ∷ []) ++ f) (c.tail ++ b ∷ f) (append_assoc c.tail (b ∷ []) f)

-- the lines that have ended stay
pub record StartsWith (ls ks : List (List ℕ)) : Type 0 where
  pub more : List (List ℕ)
  pub are : ks ≡ ls ++ more

with_byte_ended : (c : Cut) (b : ℕ) (t : Bool) → nat_eq b 10 ≡ t → StartsWith c.ended (with_byte c b).ended
with_byte_ended c b true e = record { more = c.tail ∷ []; are = rw e refl }
with_byte_ended c b false e = record { more = []; are = rw e (sym (append-nil c.ended)) }

pub ended_stay : (c : Cut) (bs : List ℕ) → StartsWith c.ended (with_bytes c bs).ended
ended_stay c [] = record { more = []; are = sym (append-nil c.ended) }
ended_stay c (b ∷ bs) =
    let h = with_byte_ended c b (nat_eq b 10) refl in
    let r = ended_stay (with_byte c b) bs in
    record { more = h.more ++ r.more; are = r.are ∙ ap (λ (ls : List (List ℕ)). ls ++ r.more) h.are ∙ append_assoc c.ended h.more r.more }

pub short_line : (bs : List ℕ) → length bs ≤ LINE_BYTES → long_line bs ≡ []
short_line bs le = let t : nat_le (LINE_BYTES + 1) (length bs) ≡ false = grind (arith, nat_tests) in rw t refl

pub too_long_line : (bs : List ℕ) → LINE_BYTES < length bs → long_line bs ≡ bs ∷ []
too_long_line bs lt = let t : nat_le (LINE_BYTES + 1) (length bs) ≡ true = grind (arith, nat_tests) in rw t refl

pub whole_line : (bs : List ℕ) → 0 < length bs → last_line bs ≡ bs ∷ []
whole_line [] some = absurd (omega arith)
whole_line (b ∷ bs) some = refl

long_tail : (g : Bool) (t : List ℕ) → LINE_BYTES < length t → decided_tail g t ≡ t ∷ []
long_tail true t lt = too_long_line t lt
long_tail false t lt = whole_line t (omega arith)

-- a line that is too long stays so, however it goes on
record LongOn (g : Bool) (c : Cut) (bs : List ℕ) : Type 0 where
  pub line : List ℕ
  pub more : List (List ℕ)
  pub are : (with_bytes c bs).ended ++ decided_tail g (with_bytes c bs).tail ≡ c.ended ++ line ∷ more
  pub long : length c.tail ≤ length line

long_ended : (g : Bool) (c : Cut) (b : ℕ) (bs : List ℕ) → nat_eq b 10 ≡ true → LongOn g c (b ∷ bs)
long_ended g c b bs e =
    let d = with_bytes (with_byte c b) bs in
    let h = ended_stay (with_byte c b) bs in
    let step : (with_byte c b).ended ≡ c.ended ++ c.tail ∷ [] = rw e refl in
    let all : d.ended ≡ c.ended ++ c.tail ∷ h.more = h.are ∙ ap (λ (ls : List (List ℕ)). ls ++ h.more) step ∙ append_assoc c.ended (c.tail ∷ []) h.more in
    record {
      line = c.tail;
      more = h.more ++ decided_tail g d.tail;
      are = ap (λ (ls : List (List ℕ)). ls ++ decided_tail g d.tail) all ∙ append_assoc c.ended (c.tail ∷ h.more) (decided_tail g d.tail);
      long = omega arith;
    }

long_byte : (g : Bool) (c : Cut) (b : ℕ) (bs : List ℕ) (t : Bool) → nat_eq b 10 ≡ t → LINE_BYTES < length c.tail
    → (LINE_BYTES < length (c.tail ++ b ∷ []) → LongOn g (record { ended = c.ended; tail = c.tail ++ b ∷ [] }) bs) → LongOn g c (b ∷ bs)
long_byte g c b bs true e lt rest = long_ended g c b bs e
long_byte g c b bs false e lt rest =
    let step : with_byte c b ≡ record { ended = c.ended; tail = c.tail ++ b ∷ [] } = rw e refl in
    let more : LINE_BYTES < length (c.tail ++ b ∷ []) = omega (arith, length-append c.tail (b ∷ [])) in
    let r = rest more in
    record {
      line = r.line;
      more = r.more;
      are = ap (λ (d : Cut). (with_bytes d bs).ended ++ decided_tail g (with_bytes d bs).tail) step ∙ r.are;
      long = omega (arith, r.long, length-append c.tail (b ∷ []));
    }

long_on : (g : Bool) (c : Cut) (bs : List ℕ) → LINE_BYTES < length c.tail → LongOn g c bs
long_on g c [] lt = record { line = c.tail; more = []; are = ap (λ (ls : List (List ℕ)). c.ended ++ ls) (long_tail g c.tail lt); long = omega arith }
long_on g c (b ∷ bs) lt = long_byte g c b bs (nat_eq b 10) refl lt (λ more. long_on g (record { ended = c.ended; tail = c.tail ++ b ∷ [] }) bs more)

-- lines grow: more follow, and only a last one that is too long may grow itself
pub data LinesGrow (ls ks : List (List ℕ)) : Type 0 where
  more_lines : (more : List (List ℕ)) → ks ≡ ls ++ more → LinesGrow ls ks
  longer_line : (prefix : List (List ℕ)) (l k : List ℕ) (more : List (List ℕ)) → ls ≡ prefix ++ l ∷ [] → ks ≡ prefix ++ k ∷ more → LINE_BYTES < length l → length l ≤ length k → LinesGrow ls ks

decided_grow : (g : Bool) (b c : List ℕ) → LinesGrow (decided true b) (decided g (b ++ c))
decided_grow g b c = elim (cases_lt LINE_BYTES (length (cut_of b).tail)) [
  | inl lt ↦
      let r = long_on g (cut_of b) c lt in
      longer_line (cut_of b).ended (cut_of b).tail r.line r.more
      (ap (λ (ls : List (List ℕ)). (cut_of b).ended ++ ls) (too_long_line (cut_of b).tail lt))
      (ap (λ (d : Cut). d.ended ++ decided_tail g d.tail) (with_append nothing_cut b c) ∙ r.are) lt r.long
  | inr le ↦
      let h = ended_stay (cut_of b) c in
      let d = with_bytes (cut_of b) c in
      let none : decided true b ≡ (cut_of b).ended = ap (λ (ls : List (List ℕ)). (cut_of b).ended ++ ls) (short_line (cut_of b).tail le) ∙ append-nil (cut_of b).ended in
      more_lines (h.more ++ decided_tail g d.tail)
      (ap (λ (e : Cut). e.ended ++ decided_tail g e.tail) (with_append nothing_cut b c)
      ∙ ap (λ (ls : List (List ℕ)). ls ++ decided_tail g d.tail) h.are ∙ append_assoc (cut_of b).ended h.more (decided_tail g d.tail)
      ∙ ap (λ (ls : List (List ℕ)). ls ++ (h.more ++ decided_tail g d.tail)) (sym none))
]

pub within_is : (b : List ℕ) → length b ≤ LOG_BYTES → is_within b ≡ true
within_is b le = grind (arith, nat_tests)

pub beyond_is : (b : List ℕ) → LOG_BYTES < length b → is_within b ≡ false
beyond_is b lt = grind (arith, nat_tests)

pub lines_within : (g : Bool) (b : List ℕ) → length b ≤ LOG_BYTES → lines_of g b ≡ decided g b
lines_within g b le = rw (within_is b le) refl

pub lines_beyond : (g : Bool) (b : List ℕ) → LOG_BYTES < length b → lines_of g b ≡ decided true (take LOG_BYTES b)
lines_beyond g b lt = rw (beyond_is b lt) refl

pub take_front : (n : ℕ) (b c : List ℕ) → n ≤ length b → take n (b ++ c) ≡ take n b
take_front n b c le = grind (arith, common_steps)

-- the lines of a text that goes on grow to those of any text that begins with it
pub lines_grow : (g : Bool) (b c : List ℕ) → LinesGrow (lines_of true b) (lines_of g (b ++ c))
lines_grow g b c = elim (cases_lt LOG_BYTES (length b)) [
  | inl lt ↦
      let far : LOG_BYTES < length (b ++ c) = omega (arith, length-append b c) in
      more_lines [] (lines_beyond g (b ++ c) far ∙ ap (λ (t : List ℕ). decided true t) (take_front LOG_BYTES b c (omega arith))
      ∙ sym (lines_beyond true b lt) ∙ sym (append-nil (lines_of true b)))
  | inr le ↦ elim (cases_lt LOG_BYTES (length (b ++ c))) [
    | inl far ↦ subst (λ ls. LinesGrow ls (lines_of g (b ++ c))) (sym (lines_within true b le))
        (subst (λ ks. LinesGrow (decided true b) ks) (sym (lines_beyond g (b ++ c) far ∙ ap (λ (t : List ℕ). decided true t) (take_over b c LOG_BYTES le)))
        (decided_grow true b (take (LOG_BYTES - length b) c)))
    | inr near ↦ subst (λ ls. LinesGrow ls (lines_of g (b ++ c))) (sym (lines_within true b le))
        (subst (λ ks. LinesGrow (decided true b) ks) (sym (lines_within g (b ++ c) near)) (decided_grow g b c))
  ]
]
