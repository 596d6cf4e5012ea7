-- Items that are read in states, up to a word that may begin an item as well.
use Rattle.std.proofs.Common.{ℕ, ◌≡◌, ◌∙◌, ◌++◌, ◌⊎◌, ◌≤◌, ◌&&◌, ◌||◌, not, Bool, true, false, cond, List, [], ◌∷◌, length, refl, sym, ap, ap₂, inl, inr, append_assoc, append-nil, subst, suc, zero, Ok, Err, arith, length-append}
use Rattle.msc_tokens.specs.declared.token.Token.{Token}
use Rattle.token_grammar.specs.Classes.{token_of}
use Rattle.token_grammar.specs.Languages.{Set, among, within, starts, refused, deep, Read, ◌>>=◌, word_at, second}
use Rattle.token_grammar.specs.Grammars.{Grammar}
use Rattle.token_grammar.specs.Rows.{rows, rows_read, rows_brink, goes_on, rows_at}
use Rattle.token_grammar.proofs.Lists.{NotStart, among-append, starts_left, starts_right, starts-append, no_start, Cuts, longer, shorter, cuts, cancel, none_more, starts_some, not_both, front_empty, back_empty, within_among, heads}
use Rattle.token_grammar.proofs.Base.{Meets, meets_front, Viable, Takes, Laws, Known, Refused, TooDeep, Meant}
use Rattle.token_grammar.proofs.Levels.{reads_of, brink_of}
use Rattle.token_grammar.proofs.Optionals.{none}
use Rattle.token_grammar.proofs.Rules.{Law, Rule}

-- ---- what goes on

and_both : (a b : Bool) → (a && b) ≡ true → (a ≡ true) × (b ≡ true)
and_both true b e = (refl, e)
and_both false b e = cc

-- behind the word stands what goes on
pub second_behind : (w t : Set) (c : Token) (ts : List Token) → second w t (c ∷ ts) ≡ true → starts t ts ≡ true
second_behind w t c ts h = (and_both (among w c) (starts t ts) h).1

pub goes_some : (F w t : Set) (x v : List Token) → starts F x ≡ true → (starts w x ≡ true → second w t x ≡ true) → goes_on F w t (x ++ v) ≡ true
goes_some F w t [] v f late = cc
goes_some F w t (c ∷ x) v f late = rw f (pick (among w c) refl)
  where
    pick : (b : Bool) → among w c ≡ b → (not b || starts t (x ++ v)) ≡ true
    pick true e = starts-append t x v (second_behind w t c x (late e))
    pick false e = refl

pub stops_word : (F w t : Set) (c : Token) (u : List Token) → among w c ≡ true → NotStart t u → goes_on F w t (c ∷ u) ≡ false
stops_word F w t c u e h = rw (e, h.not_start) (none_left (among F c))
  where
    none_left : (b : Bool) → (b && false) ≡ false
    none_left true = refl
    none_left false = refl

-- two tokens decide
pub goes_meets : (F w t : Set) (c : Token) (used rest more : List Token) → goes_on F w t ((c ∷ used) ++ rest) ≡ true → Meets rest more → (v : List Token) × (goes_on F w t ((c ∷ used) ++ (more ++ v)) ≡ true)
goes_meets F w t c (d ∷ used) rest more h m = ([], h)
goes_meets F w t c [] rest [] h m = (rest, h)
goes_meets F w t c [] [] (d ∷ more) h m = absurd m
goes_meets F w t c [] (e ∷ rest) (d ∷ more) h m = ([], subst (λ (f : Token). goes_on F w t (c ∷ f ∷ more ++ []) ≡ true) m h)

-- ---- at most one reading

nothing : (w : List Token) → NotStart [] w
nothing [] = no_start []
nothing (t ∷ w) = record { not_start = refl }

module _ {Q A : Type 0} (w : Set) (next : Q → A → Q) (R : Q → ℕ → Grammar A) (F T : Q → Set) where
  abbrev pub Rows : Q → ℕ → Grammar (List A × Token)
  Rows q m = rows w next (λ s. R s m) q

  -- the state behind the items
  abbrev pub after_all : Q → List A → Q
  after_all q [] = q
  after_all q (a ∷ xs) = after_all (next q a) xs

  -- what can't stand behind the word
  abbrev pub begun_items : Q → List A × Token → Set
  begun_items q v = T (after_all q v.0)

  -- an item that begins with the word has behind it what goes on
  abbrev pub Late : Type 0
  Late = (q : Q) (m : ℕ) (x : List Token) (a : A) → (R q m).reads x a → starts w x ≡ true → second w (T q) x ≡ true

  module _ (n : ℕ) (late : Late) (laws : (q : Q) → Laws (reads_of (R q)) (F q) none n) where
    pub item_goes : (q : Q) (m : ℕ) (x : List Token) (a : A) → (R q m).reads x a → (v : List Token) → goes_on (F q) w (T q) (x ++ v) ≡ true
    item_goes q m x a h v = goes_some (F q) w (T q) x v ((laws q).begins m x a h) (late q m x a h)

    -- the word alone isn't an item and more
    pub word_or_item : (q : Q) (m : ℕ) (x : List Token) (c : Token) (u : List Token) → (x ≡ c ∷ []) × (among w c ≡ true) → NotStart (T q) u → (y : List Token) (a : A) → (R q m).reads y a
        → (z : List Token) → x ++ u ≡ y ++ z → ⊥
    word_or_item q m x c u h nu y a g z e =
        not_both (sym (item_goes q m y a g z) ∙ ap (goes_on (F q) w (T q)) (sym e ∙ ap (λ l. l ++ u) h.0) ∙ stops_word (F q) w (T q) c u h.1 nu)

    rows_unique : (m : ℕ) (q : Q) (x y u v : List Token) (xs bs : List A) (c d : Token) → rows_read w next (λ s. R s n) q x xs c → rows_read w next (λ s. R s m) q y bs d → x ++ u ≡ y ++ v
        → NotStart (T (after_all q xs)) u → NotStart (T (after_all q bs)) v → (x ≡ y) × ((xs ≡ bs) × (c ≡ d))
    rows_unique m q x y u v [] [] c d h k e nu nv =
        let hd = heads c d u v (sym (ap (λ l. l ++ u) h.0) ∙ e ∙ ap (λ l. l ++ v) k.0) in
        (h.0 ∙ ap (λ t. t ∷ []) hd.0 ∙ sym k.0, (refl, hd.0))
    rows_unique m q x y u v [] (b ∷ bs) c d h k e nu nv = absurd (word_or_item q m x c u h nu k.0 b k.3 (k.1 ++ v) (e ∙ ap (λ l. l ++ v) k.2 ∙ append_assoc k.0 k.1 v))
    rows_unique m q x y u v (a ∷ xs) [] c d h k e nu nv = absurd (word_or_item q n y d v k nv h.0 a h.3 (h.1 ++ u) (sym e ∙ ap (λ l. l ++ u) h.2 ∙ append_assoc h.0 h.1 u))
    rows_unique m q x y u v (a ∷ xs) (b ∷ bs) c d h k e nu nv =
        let e1 : h.0 ++ (h.1 ++ u) ≡ k.0 ++ (k.1 ++ v) = sym (append_assoc h.0 h.1 u) ∙ sym (ap (λ l. l ++ u) h.2) ∙ e ∙ ap (λ l. l ++ v) k.2 ∙ append_assoc k.0 k.1 v in
        let first = (laws q).unique m h.0 k.0 (h.1 ++ u) (k.1 ++ v) a b h.3 k.3 e1 (nothing (h.1 ++ u)) (nothing (k.1 ++ v)) in
        let e2 : h.1 ++ u ≡ k.1 ++ v = cancel k.0 (h.1 ++ u) (k.1 ++ v) (sym (ap (λ l. l ++ (h.1 ++ u)) first.0) ∙ e1) in
        let g : rows_read w next (λ s. R s n) (next q b) h.1 xs c = subst (λ (t : A). rows_read w next (λ s. R s n) (next q t) h.1 xs c) first.1 h.4 in
        let nu2 : NotStart (T (after_all (next q b) xs)) u = subst (λ (t : A). NotStart (T (after_all (next q t) xs)) u) first.1 nu in
        let rest = rows_unique m (next q b) h.1 k.1 u v xs bs c d g k.4 e2 nu2 nv in
        (h.2 ∙ ap (λ l. l ++ h.1) first.0 ∙ ap (λ l. k.0 ++ l) rest.0 ∙ sym k.2, (ap₂ (λ t l. t ∷ l) first.1 rest.1.0, rest.1.1))

    rows_up : (q : Q) (x : List Token) (xs : List A) (c : Token) → rows_read w next (λ s. R s n) q x xs c → rows_read w next (λ s. R s (suc n)) q x xs c
    rows_up q x [] c h = h
    rows_up q x (a ∷ xs) c h = (h.0, h.1, h.2, (laws q).up h.0 a h.3, rows_up (next q a) h.1 xs c h.4)

    rows_begin : (m : ℕ) (q : Q) (x : List Token) (xs : List A) (c : Token) → rows_read w next (λ s. R s m) q x xs c → starts (F q ++ w) x ≡ true
    rows_begin m q x [] c h = starts_right (F q) w x (rw h.0 h.1)
    rows_begin m q x (a ∷ xs) c h = starts_left (F q) w x (rw h.2 (starts-append (F q) h.0 h.1 ((laws q).begins m h.0 a h.3)))

    pub rows_laws : (q : Q) → Laws (reads_of (Rows q)) (F q ++ w) (begun_items q) n
    rows_laws q = record {
      up = λ x v h. rows_up q x v.0 v.1 h;
      unique = λ m x y u v a b h k e nu nv. let s = rows_unique m q x y u v a.0 b.0 a.1 b.1 h k e nu nv in (s.0, ap₂ (λ l t. (l, t)) s.1.0 s.1.1);
      begins = λ m x v h. rows_begin m q x v.0 v.1 h;
    }

-- ---- openings, at one level

pub one_only : (p : List Token) (c : Token) (z : List Token) (w t : Set) → c ∷ [] ≡ p ++ z → second w t p ≡ true → ⊥
one_only [] c z w t e h = cc
one_only (b ∷ []) c z w t e h = starts_some t [] (second_behind w t b [] h) refl
one_only (b ∷ d ∷ p) c z w t e h = cc

module _ {Q A : Type 0} (w : Set) (next : Q → A → Q) (R : Q → ℕ → Grammar A) (F T : Q → Set) (n : ℕ) (late : Late w next R F T)
    (r : (q : Q) → Known (reads_of (R q)) (brink_of (R q)) (F q) none n)
    (late_brink : (q : Q) (p : List Token) → (R q n).brink p → starts w p ≡ true → second w (T q) p ≡ true)
    (c : List ℕ) (c_word : among w (token_of c) ≡ true) where
  abbrev RowsHere : Q → ℕ → Grammar (List A × Token)
  RowsHere q m = Rows w next R F T q m

  laws_here : (q : Q) (m : ℕ) → Laws (reads_of (R q)) (F q) none m
  laws_here q m = (r q).laws m

  pub word_viable : (m : ℕ) (q : Q) → Viable (reads_of (RowsHere q)) m []
  word_viable m q = record { more = token_of c ∷ []; value = ([], token_of c); holds = (refl, c_word) }

  -- a reading of an item and then anything is no prefix of another reading of the item
  pub clash : (q : Q) (i j : ℕ) (y x : List Token) (a b : A) → (R q i).reads y a → (R q j).reads x b → (d : Token) (k : List Token) → x ≡ y ++ d ∷ k → ⊥
  clash q i j y x a b h g d k e =
      let same = ((r q).laws i).unique j y x (d ∷ k) [] a b h g (sym e ∙ sym (append-nil x)) (nothing (d ∷ k)) (no_start []) in
      none_more y d k (same.0 ∙ e)

  rows_opened : (xs : List A) (q : Q) (p : List Token) → rows_brink next (λ s. R s n) q xs p → Viable (reads_of (RowsHere q)) (suc n) p
  rows_opened [] q p k =
      let v = (r q).opened p k in
      record { more = v.more ++ token_of c ∷ []; value = (v.value ∷ [], token_of c); holds = (p ++ v.more, token_of c ∷ [], sym (append_assoc p v.more (token_of c ∷ [])), v.holds, (refl, c_word)) }
  rows_opened (a ∷ xs) q p k =
      let v = rows_opened xs (next q a) k.1 k.4 in
      record { more = v.more; value = (a ∷ v.value.0, v.value.1); holds = (k.0, k.1 ++ v.more, ap (λ l. l ++ v.more) k.2 ∙ append_assoc k.0 k.1 v.more, ((r q).laws n).up k.0 a k.3, v.holds) }

  rows_some : (xs : List A) (q : Q) (p : List Token) → rows_brink next (λ s. R s n) q xs p → p ≡ [] → ⊥
  rows_some [] q p k e = (r q).some p k e
  rows_some (a ∷ xs) q p k e = rows_some xs (next q a) k.1 k.4 (back_empty k.0 k.1 (sym k.2 ∙ e))

  brink_start : (q : Q) (p : List Token) → (R q n).brink p → (d : Token) (z : List Token) → d ∷ [] ≡ p ++ z → among w d ≡ true → ⊥
  brink_start q [] h d z e m = (r q).some [] h refl
  brink_start q (b ∷ p) h d z e m = one_only (b ∷ p) d z w (T q) e (late_brink q (b ∷ p) h (subst (λ (f : Token). among w f ≡ true) (heads d b [] (p ++ z) e).0 m))

  item_start : (q : Q) (m : ℕ) (y : List Token) (a : A) → (R q m).reads y a → (d : Token) (z : List Token) → d ∷ [] ≡ y ++ z → among w d ≡ true → ⊥
  item_start q m [] a h d z e g = starts_some (F q) [] (((r q).laws 0).begins m [] a h) refl
  item_start q m (b ∷ y) a h d z e g = one_only (b ∷ y) d z w (T q) e (late q m (b ∷ y) a h (subst (λ (f : Token). among w f ≡ true) (heads d b [] (y ++ z) e).0 g))

  rows_proper : (q : Q) (x : List Token) (xs : List A) (d : Token) → rows_read w next (λ s. R s n) q x xs d → (p z : List Token) → x ≡ p ++ z → (ys : List A) → rows_brink next (λ s. R s n) q ys p → ⊥
  rows_proper q x [] d h p z e [] k = brink_start q p k d z (sym h.0 ∙ e) h.1
  rows_proper q x [] d h p z e (b ∷ ys) k = item_start q n k.0 b k.3 d (k.1 ++ z) (sym h.0 ∙ e ∙ ap (λ l. l ++ z) k.2 ∙ append_assoc k.0 k.1 z) h.1
  rows_proper q x (a ∷ xs) d h p z e [] k = go (cuts h.0 h.1 p z (sym h.2 ∙ e))
    where
      go : Cuts h.0 h.1 p z → ⊥
      go (longer l e1 e2) = (r q).proper h.0 a h.3 p l e1 k
      go (shorter f l e1 e2) = let v = (r q).opened p k in clash q n (suc n) h.0 (p ++ v.more) a v.value h.3 v.holds f (l ++ v.more) (ap (λ t. t ++ v.more) e1 ∙ append_assoc h.0 (f ∷ l) v.more)
  rows_proper q x (a ∷ xs) d h p z e (b ∷ ys) k =
      let line : h.0 ++ h.1 ≡ k.0 ++ (k.1 ++ z) = sym h.2 ∙ e ∙ ap (λ l. l ++ z) k.2 ∙ append_assoc k.0 k.1 z in
      let first = ((r q).laws n).unique n h.0 k.0 h.1 (k.1 ++ z) a b h.3 k.3 line (nothing h.1) (nothing (k.1 ++ z)) in
      let e2 : h.1 ≡ k.1 ++ z = cancel k.0 h.1 (k.1 ++ z) (sym (ap (λ l. l ++ h.1) first.0) ∙ line) in
      rows_proper (next q a) h.1 xs d h.4 k.1 z e2 ys (subst (λ (t : A). rows_brink next (λ s. R s n) (next q t) ys k.1) (sym first.1) k.4)

  pub rows_known : (q : Q) → Known (reads_of (RowsHere q)) (brink_of (RowsHere q)) (F q ++ w) (begun_items w next R F T q) n
  rows_known q = record {
    laws = λ m. rows_laws w next R F T m late (λ s. laws_here s m) q;
    word = word_viable (suc n) q;
    opened = λ p k. rows_opened k.0 q p k.1;
    some = λ p k. rows_some k.0 q p k.1;
    proper = λ x v h p z e k. rows_proper q x v.0 v.1 h p z e k.0 k.1;
  }

  -- ---- the reader

  module _ (begun : (q : Q) (d e : Token) → among (F q) d ≡ true → among w d ≡ true → among (T q) e ≡ true → Viable (reads_of (R q)) (suc n) (d ∷ e ∷ []))
      (able : (q : Q) → (within w (F q) ≡ true) ⊎ (T q ≡ [])) where
    abbrev RowRefused : Q → List Token → ℕ → Type 0
    RowRefused q ts k = Refused (reads_of (RowsHere q)) (brink_of (RowsHere q)) n (F q ++ w) ts k

    abbrev RowDeep : Q → List Token → ℕ → Type 0
    RowDeep q ts k = TooDeep (reads_of (RowsHere q)) (brink_of (RowsHere q)) n ts k

    abbrev RowMeant : Q → List Token → Read (List A × Token) → Type 0
    RowMeant q ts x = Meant (reads_of (RowsHere q)) (brink_of (RowsHere q)) n (F q ++ w) (begun_items w next R F T q) ts x

    goes_first : (q : Q) (ts : List Token) → goes_on (F q) w (T q) ts ≡ true → starts (F q) ts ≡ true
    goes_first q [] h = cc
    goes_first q (d ∷ ts) h = (and_both (among (F q) d) (not (among w d) || starts (T q) ts) h).0

    -- one item's value and what follows
    with_word : (q : Q) (used : List Token) → Viable (reads_of (R q)) (suc n) used → Viable (reads_of (RowsHere q)) (suc n) used
    with_word q used v = record { more = v.more ++ token_of c ∷ []; value = (v.value ∷ [], token_of c); holds = (used ++ v.more, token_of c ∷ [], sym (append_assoc used v.more (token_of c ∷ [])), v.holds, (refl, c_word)) }

    -- where an item goes on, what is used of it isn't the word alone, nor an opening behind a whole item
    first_safe : (q : Q) (used rest : List Token) → goes_on (F q) w (T q) (used ++ rest) ≡ true → Viable (reads_of (R q)) (suc n) used → ((p z : List Token) → used ≡ p ++ z → (R q n).brink p → ⊥)
        → (p z : List Token) → used ≡ p ++ z → (xs : List A) → rows_brink next (λ s. R s n) q xs p → ⊥
    first_safe q used rest g v safe p z e [] k = safe p z e k
    first_safe q used rest g v safe p z e (a ∷ xs) k = some_left k.1 refl
      where
        some_left : (l : List Token) → k.1 ≡ l → ⊥
        some_left [] e2 = rows_some xs (next q a) k.1 k.4 e2
        some_left (d ∷ l) e2 =
            clash q n (suc n) k.0 (used ++ v.more) a v.value k.3 v.holds d (l ++ (z ++ v.more))
            (ap (λ t. t ++ v.more) (e ∙ ap (λ t. t ++ z) k.2) ∙ ap (λ t. ((k.0 ++ t) ++ z) ++ v.more) e2 ∙ line k.0 (d ∷ l) z v.more)
          where
            line : (a b c d : List Token) → ((a ++ b) ++ c) ++ d ≡ a ++ (b ++ (c ++ d))
            line a b c d = simp append_assoc

    -- the item goes on whatever meets the rest
    not_word : (q : Q) (used rest more : List Token) → (used ≡ [] → ⊥) → goes_on (F q) w (T q) (used ++ rest) ≡ true → Meets rest more → (d : Token) → (used ++ more ≡ d ∷ []) × (among w d ≡ true)
        → ((e : Token) → among (T q) e ≡ true → used ≡ d ∷ [] → (behind : List Token) → rest ≡ e ∷ behind → ⊥) → ⊥
    not_word q [] rest more some g m d h late_refused = some refl
    not_word q (b ∷ used) rest more some g m d h late_refused =
        let two = heads b d (used ++ more) [] h.0 in
        let none_used : used ≡ [] = front_empty used more two.1 in
        let single : b ∷ used ≡ d ∷ [] = ap₂ (λ t l. t ∷ l) two.0 none_used in
        pick rest refl single
      where
        pick : (us : List Token) → rest ≡ us → b ∷ used ≡ d ∷ [] → ⊥
        pick [] e1 single = not_both (sym (subst (λ l. goes_on (F q) w (T q) l ≡ true) (ap₂ (λ l k. l ++ k) single e1) g) ∙ stops_word (F q) w (T q) d [] h.1 (no_start (T q)))
        pick (e ∷ us) e1 single = step (starts (T q) (e ∷ us)) refl
          where
            step : (b2 : Bool) → starts (T q) (e ∷ us) ≡ b2 → ⊥
            step true e2 = late_refused e e2 single us e1
            step false e2 = not_both (sym (subst (λ l. goes_on (F q) w (T q) l ≡ true) (ap₂ (λ l k. l ++ k) single e1) g) ∙ stops_word (F q) w (T q) d (e ∷ us) h.1 (record { not_start = e2 }))

    first_refuses : (q : Q) (ts : List Token) (k : ℕ) → goes_on (F q) w (T q) ts ≡ true → Refused (reads_of (R q)) (brink_of (R q)) n (F q) ts k → RowRefused q ts k
    first_refuses q ts k g h = record {
      used = h.used;
      rest = h.rest;
      cut = h.cut;
      left = h.left;
      viable = inr (with_word q h.used (pick h.viable));
      stops = λ m more v meets b. no m more v.0 v.1 meets b;
      first = λ e. absurd (some e);
      safe = λ p z e b. first_safe q h.used h.rest here (pick h.viable) h.safe p z e b.0 b.1;
    }
      where
        here : goes_on (F q) w (T q) (h.used ++ h.rest) ≡ true
        here = subst (λ l. goes_on (F q) w (T q) l ≡ true) h.cut g

        some : h.used ≡ [] → ⊥
        some e = not_both (sym (goes_first q h.rest (subst (λ l. goes_on (F q) w (T q) (l ++ h.rest) ≡ true) e here)) ∙ h.first e)

        pick : (h.used ≡ []) ⊎ Viable (reads_of (R q)) (suc n) h.used → Viable (reads_of (R q)) (suc n) h.used
        pick (inl e) = absurd (some e)
        pick (inr v) = v

        late_refused : (d : Token) → among w d ≡ true → (e : Token) → among (T q) e ≡ true → h.used ≡ d ∷ [] → (behind : List Token) → h.rest ≡ e ∷ behind → ⊥
        late_refused d dw e et single behind e1 =
            let df : among (F q) d ≡ true = subst (λ l. starts (F q) (l ++ h.rest) ≡ true) single (goes_first q (h.used ++ h.rest) here) in
            let v = begun q d e df dw et in
            h.stops (suc n) (e ∷ v.more) v.value (subst (λ l. Meets l (e ∷ v.more)) (sym e1) refl) (subst (λ l. (R q (suc n)).reads (l ++ e ∷ v.more) v.value) (sym single) v.holds)

        no_cut : (m : ℕ) (more : List Token) (a : A) (y z : List Token) → Meets h.rest more → (R q m).reads y a → Cuts y z h.used more → ⊥
        no_cut m more a y z meets hy (longer l e f) = h.stops m l a (meets_front h.rest l z (subst (Meets h.rest) f meets)) (subst (λ t. (R q m).reads t a) e hy)
        no_cut m more a y z meets hy (shorter d l e f) = let v = pick h.viable in clash q m (suc n) y (h.used ++ v.more) a v.value hy v.holds d (l ++ v.more) (ap (λ t. t ++ v.more) e ∙ append_assoc y (d ∷ l) v.more)

        no : (m : ℕ) (more : List Token) (xs : List A) (d : Token) → Meets h.rest more → rows_read w next (λ s. R s m) q (h.used ++ more) xs d → ⊥
        no m more [] d meets b = not_word q h.used h.rest more some here meets d b (λ e. late_refused d b.1 e)
        no m more (a ∷ xs) d meets b = no_cut m more a b.0 b.1 meets b.3 (cuts b.0 b.1 h.used more (sym b.2))

    first_deep : (q : Q) (ts : List Token) (k : ℕ) → goes_on (F q) w (T q) ts ≡ true → TooDeep (reads_of (R q)) (brink_of (R q)) n ts k → RowDeep q ts k
    first_deep q ts k g h = record {
      used = h.used;
      token = h.token;
      rest = h.rest;
      cut = h.cut;
      left = h.left;
      brink = ([], h.brink);
      safe = λ p z e b. first_safe q h.used (h.token ∷ h.rest) (subst (λ l. goes_on (F q) w (T q) l ≡ true) h.cut g) some h.safe p z e b.0 b.1;
    }
      where
        some : Viable (reads_of (R q)) (suc n) h.used
        some = let v = (r q).opened (h.used ++ h.token ∷ []) h.brink in
            record { more = h.token ∷ v.more; value = v.value; holds = subst (λ l. (R q (suc n)).reads l v.value) (append_assoc h.used (h.token ∷ []) v.more) v.holds }

    module _ (q : Q) (ts rest : List Token) (a : A) (t : Takes (reads_of (R q)) n none ts a rest) where
      more_viable : (used : List Token) → (used ≡ []) ⊎ Viable (reads_of (RowsHere (next q a))) (suc n) used → Viable (reads_of (RowsHere q)) (suc n) (t.used ++ used)
      more_viable used (inl e) = record {
        more = token_of c ∷ [];
        value = (a ∷ [], token_of c);
        holds = (t.used, token_of c ∷ [], ap (λ l. (t.used ++ l) ++ token_of c ∷ []) e ∙ ap (λ l. l ++ token_of c ∷ []) (append-nil t.used), ((r q).laws n).up t.used a t.holds, (refl, c_word));
      }
      more_viable used (inr v) = record { more = v.more; value = (a ∷ v.value.0, v.value.1); holds = (t.used, used ++ v.more, append_assoc t.used used v.more, ((r q).laws n).up t.used a t.holds, v.holds) }

      none_used : (used : List Token) → t.used ++ used ≡ [] → ⊥
      none_used used e = starts_some (F q) (t.used ++ used) (starts-append (F q) t.used used (((r q).laws 0).begins n t.used a t.holds)) e

      -- another reading begins with the same item
      same_item : (m : ℕ) (y z u : List Token) (b : A) → (R q m).reads y b → y ++ z ≡ t.used ++ u → (a ≡ b) × (z ≡ u)
      same_item m y z u b hy e =
          let same = ((r q).laws n).unique m t.used y u z a b t.holds hy (sym e) (nothing u) (nothing z) in
          (same.1, cancel t.used z u (ap (λ l. l ++ z) same.0 ∙ e))

      again_safe : (used : List Token) → ((p z : List Token) → used ≡ p ++ z → (brink_of (RowsHere (next q a))) n p → ⊥) → (p z : List Token) → t.used ++ used ≡ p ++ z → (xs : List A) → rows_brink next (λ s. R s n) q xs p → ⊥
      again_safe used safe p z e [] k = go (cuts t.used used p z e)
        where
          go : Cuts t.used used p z → ⊥
          go (longer l e1 e2) = (r q).proper t.used a t.holds p l e1 k
          go (shorter d l e1 e2) = let v = (r q).opened p k in clash q n (suc n) t.used (p ++ v.more) a v.value t.holds v.holds d (l ++ v.more) (ap (λ x. x ++ v.more) e1 ∙ append_assoc t.used (d ∷ l) v.more)
      again_safe used safe p z e (b ∷ xs) k =
          let same = same_item n k.0 (k.1 ++ z) used b k.3 (sym (append_assoc k.0 k.1 z) ∙ ap (λ l. l ++ z) (sym k.2) ∙ sym e) in
          safe k.1 z (sym same.1) (xs, subst (λ (x : A). rows_brink next (λ s. R s n) (next q x) xs k.1) (sym same.0) k.4)

      again : (x : Read (List A × Token)) → RowMeant (next q a) rest x → RowMeant q ts (x >>= λ y. Ok ((a ∷ y.0.0, y.0.1), y.1))
      again (Ok y) h = record { used = t.used ++ h.used; cut = t.cut ∙ ap (λ l. t.used ++ l) h.cut ∙ sym (append_assoc t.used h.used y.1); holds = (t.used, h.used, refl, t.holds, h.holds); ends = h.ends }
      again (Err (refused k)) h = record {
        used = t.used ++ h.used;
        rest = h.rest;
        cut = t.cut ∙ ap (λ l. t.used ++ l) h.cut ∙ sym (append_assoc t.used h.used h.rest);
        left = h.left;
        viable = inr (more_viable h.used h.viable);
        stops = λ m more v meets b. no m more v.0 v.1 meets b;
        first = λ e. absurd (none_used h.used e);
        safe = λ p z e b. again_safe h.used h.safe p z e b.0 b.1;
      }
        where
          no : (m : ℕ) (more : List Token) (xs : List A) (d : Token) → Meets h.rest more → rows_read w next (λ s. R s m) q ((t.used ++ h.used) ++ more) xs d → ⊥
          no m more [] d meets b = item_start q n t.used a t.holds d (h.used ++ more) (sym b.0 ∙ append_assoc t.used h.used more) b.1
          no m more (b ∷ xs) d meets g =
              let same = same_item m g.0 g.1 (h.used ++ more) b g.3 (sym g.2 ∙ append_assoc t.used h.used more) in
              h.stops m more (xs, d) meets (subst (λ l. rows_read w next (λ s. R s m) (next q a) l xs d) same.1 (subst (λ (x : A). rows_read w next (λ s. R s m) (next q x) g.1 xs d) (sym same.0) g.4))
      again (Err (deep k)) h = record {
        used = t.used ++ h.used;
        token = h.token;
        rest = h.rest;
        cut = t.cut ∙ ap (λ l. t.used ++ l) h.cut ∙ sym (append_assoc t.used h.used (h.token ∷ h.rest));
        left = h.left;
        brink = (a ∷ h.brink.0, (t.used, h.used ++ h.token ∷ [], append_assoc t.used h.used (h.token ∷ []), t.holds, h.brink.1));
        safe = λ p z e b. again_safe h.used h.safe p z e b.0 b.1;
      }

      fewer : (k : ℕ) → length ts ≤ suc k → length rest ≤ k
      fewer k h = cut_less t.used (((r q).laws 0).begins n t.used a t.holds) (subst (λ l. length l ≤ suc k) t.cut h)
        where
          cut_less : (used : List Token) → starts (F q) used ≡ true → length (used ++ rest) ≤ suc k → length rest ≤ k
          cut_less [] e g = absurd (starts_some (F q) [] e refl)
          cut_less (d ∷ used) e g = omega (arith, length-append used rest)

    -- neither an item nor the word
    nothing_here : (q : Q) (ts : List Token) → starts (F q) ts ≡ false → starts w ts ≡ false → RowRefused q ts (length ts)
    nothing_here q ts f g = record { used = []; rest = ts; cut = refl; left = refl; viable = inl refl; stops = λ m more v meets b. no m ts more (starts_none ts f g) meets (rows_begin w next R F T n late (λ s. laws_here s n) m q more v.0 v.1 b); first = λ e. starts_none ts f g; safe = λ p z e b. rows_some b.0 q p b.1 (front_empty p z (sym e)) }
      where
        starts_none : (us : List Token) → starts (F q) us ≡ false → starts w us ≡ false → starts (F q ++ w) us ≡ false
        starts_none [] a b = refl
        starts_none (d ∷ us) a b = rw (among-append (F q) w d, a) b

        no : (m : ℕ) (us more : List Token) → starts (F q ++ w) us ≡ false → Meets us more → starts (F q ++ w) more ≡ true → ⊥
        no m us [] a meets b = not_both (sym b)
        no m [] (d ∷ more) a meets b = meets
        no m (e ∷ us) (d ∷ more) a meets b = not_both (sym b ∙ subst (λ (x : Token). among (F q ++ w) x ≡ false) meets a)

    not_going : (q : Q) (d : Token) (ts : List Token) → goes_on (F q) w (T q) (d ∷ ts) ≡ false → among w d ≡ false → among (F q) d ≡ false
    not_going q d ts g e = pick (among (F q) d) refl
      where
        pick : (b : Bool) → among (F q) d ≡ b → among (F q) d ≡ false
        pick true f = absurd (not_both (let h : goes_on (F q) w (T q) (d ∷ ts) ≡ true = rw (f, e) refl in sym h ∙ g))
        pick false f = f

    behind_word : (q : Q) (d : Token) (ts : List Token) → goes_on (F q) w (T q) (d ∷ ts) ≡ false → among w d ≡ true → NotStart (T q) ts
    behind_word q d ts g e = elim (able q) [
      | inl less ↦ (let f : among (F q) d ≡ true = within_among w (F q) d less e in record { not_start = (let h : starts (T q) ts ≡ false = rw (f, e) at g in h) })
      | inr no_items ↦ subst (λ (s : Set). NotStart s ts) (sym no_items) (nothing ts)
    ]

    word_here : (q : Q) (ts : List Token) → goes_on (F q) w (T q) ts ≡ false → RowMeant q ts (word_at w ts >>= λ d. Ok (([], d.0), d.1))
    word_here q [] g = nothing_here q [] refl refl
    word_here q (d ∷ ts) g = pick (among w d) refl
      where
        pick : (b : Bool) → among w d ≡ b → RowMeant q (d ∷ ts) (cond b (Ok (d, ts)) (Err (refused (length (d ∷ ts)))) >>= λ x. Ok (([], x.0), x.1))
        pick true e = record { used = d ∷ []; cut = refl; holds = (refl, e); ends = behind_word q d ts g e }
        pick false e = nothing_here q (d ∷ ts) (not_going q d ts g e) e

    module _ (p : Q → List Token → Read A) (rp : (q : Q) (ts : List Token) → Meant (reads_of (R q)) (brink_of (R q)) n (F q) none ts (p q ts)) where
      abbrev here_at : ℕ → Q → List Token → Read (List A × Token)
      here_at k q ts = rows_at w next F T p k q ts

      pub rows_meant : (k : ℕ) (q : Q) (ts : List Token) → length ts ≤ k → RowMeant q ts (here_at k q ts)
      rows_meant zero q ts h = no_tokens ts h
        where
          no_tokens : (ts : List Token) → length ts ≤ 0 → RowMeant q ts (Err (refused (length ts)))
          no_tokens [] h = nothing_here q [] refl refl
          no_tokens (t ∷ ts) h = absurd (omega arith)
      rows_meant (suc k) q ts h =
          let more : (x : A × List Token) → Takes (reads_of (R q)) n none ts x.0 x.1 → RowMeant (next q x.0) x.1 (here_at k (next q x.0) x.1) = λ x t. rows_meant k (next q x.0) x.1 (fewer q ts x.1 x.0 t k h) in
          pick (goes_on (F q) w (T q) ts) refl more
        where
          after_item : (x : Read A) → goes_on (F q) w (T q) ts ≡ true → Meant (reads_of (R q)) (brink_of (R q)) n (F q) none ts x
              → ((y : A × List Token) → Takes (reads_of (R q)) n none ts y.0 y.1 → RowMeant (next q y.0) y.1 (here_at k (next q y.0) y.1))
              → RowMeant q ts (x >>= λ a. here_at k (next q a.0) a.1 >>= λ y. Ok ((a.0 ∷ y.0.0, y.0.1), y.1))
          after_item (Ok x) e t more = again q ts x.1 x.0 t (here_at k (next q x.0) x.1) (more x t)
          after_item (Err (refused j)) e t more = first_refuses q ts j e t
          after_item (Err (deep j)) e t more = first_deep q ts j e t

          pick : (b : Bool) → goes_on (F q) w (T q) ts ≡ b → ((y : A × List Token) → Takes (reads_of (R q)) n none ts y.0 y.1 → RowMeant (next q y.0) y.1 (here_at k (next q y.0) y.1))
              → RowMeant q ts (cond b (p q ts >>= λ a. here_at k (next q a.0) a.1 >>= λ y. Ok ((a.0 ∷ y.0.0, y.0.1), y.1)) (word_at w ts >>= λ d. Ok (([], d.0), d.1)))
          pick true e more = after_item (p q ts) e (rp q ts) more
          pick false e more = word_here q ts e

-- ---- the law and the rule

module _ {Q A : Type 0} (w : Set) (next : Q → A → Q) (R : Q → ℕ → Grammar A) (F T : Q → Set) where
  pub rows_law : (n : ℕ) → Late w next R F T → ((q : Q) → Law (R q) n (F q) none) → (q : Q) → Law (Rows w next R F T q) n (F q ++ w) (begun_items w next R F T q)
  rows_law n late laws q = record { laws = rows_laws w next R F T n late (λ s. (laws s).laws) q }

  pub rows_rule : (n : ℕ) → Late w next R F T → ((q : Q) (x : List Token) → (R q n).brink x → starts w x ≡ true → second w (T q) x ≡ true)
      → (c : List ℕ) → among w (token_of c) ≡ true
      → ((q : Q) (d e : Token) → among (F q) d ≡ true → among w d ≡ true → among (T q) e ≡ true → Viable (reads_of (R q)) (suc n) (d ∷ e ∷ []))
      → ((q : Q) → (within w (F q) ≡ true) ⊎ (T q ≡ []))
      → (p : Q → List Token → Read A) → ((q : Q) → Rule (R q) n (F q) none (p q))
      → (q : Q) → Rule (Rows w next R F T q) n (F q ++ w) (begun_items w next R F T q) (λ ts. rows_at w next F T p (length ts) q ts)
  rows_rule n late late_brink c c_word begun able p rules q = record {
    known = rows_known w next R F T n late (λ s. (rules s).known) late_brink c c_word q;
    meant = λ ts. rows_meant w next R F T n late (λ s. (rules s).known) late_brink c c_word begun able p (λ s. (rules s).meant) (length ts) q ts (omega arith);
  }
