-- Which lines of a text begin a certificate.
use Rattle.std.proofs.Common.{◌≡◌, ◌∙◌, ◌+◌, ℕ, suc, Some, List, [], ◌∷◌, ◌++◌, length, map, take, drop, All, arith, sym, ap, ap₂, refl, subst, append_assoc, append-nil, length-append, take-append-drop}
use Rattle.std.proofs.Math.Seq.{take-append_seam, drop-append_seam}
use Rattle.std.proofs.lemmas.List.Elements.{All-nil, All-head, All-push, All-take, All-drop, All-same}
use Rattle.certificates.specs.Certificates.{Certificate}
use Rattle.certificates.specs.Lines.{Line, lines}
use Rattle.certificate_texts.specs.declared.missing.Level.{Level}
use Rattle.certificate_texts.specs.declared.missing.Level.TheVariants as level
use Rattle.certificate_texts.specs.Codes.{certificate_of, certificate_again}
use Rattle.certificate_texts.specs.Levels.{levels_behind, IsLine, CannotFollow}
use Rattle.certificate_texts.specs.Readings.{IsShort, AreLines, CanStand, IsWrongLine, LacksLines}
use Rattle.certificate_texts.specs.Texts.{line_bytes}
use Rattle.certificate_texts.proofs.Following.{Follows, follows_start, follows_line, follows_begins, follows_none, follows_over, follows_lacks}
use Rattle.certificate_texts.proofs.LineForms.{same_lines}

-- lines of a text that fall into two parts do so on both sides
record Parted (ls : List Line) (xs ys : List (List ℕ)) : Type 0 where
  front : List Line
  back : List Line
  are : ls ≡ front ++ back
  fronts : xs ≡ map line_bytes front
  backs : ys ≡ map line_bytes back

cons_head : (x y : List ℕ) (xs ys : List (List ℕ)) → x ∷ xs ≡ y ∷ ys → x ≡ y
cons_head x y xs ys e = cc

cons_tail : (x y : List ℕ) (xs ys : List (List ℕ)) → x ∷ xs ≡ y ∷ ys → xs ≡ ys
cons_tail x y xs ys e = cc

parted : (ls : List Line) (xs ys : List (List ℕ)) → xs ++ ys ≡ map line_bytes ls → Parted ls xs ys
parted ls [] ys e = record { front = []; back = ls; are = refl; fronts = refl; backs = e }
parted [] (x ∷ xs) ys e = absurd (cc)
parted (l ∷ ls) (x ∷ xs) ys e =
    let p = parted ls xs ys (cons_tail x (line_bytes l) (xs ++ ys) (map line_bytes ls) e) in
    record {
      front = l ∷ p.front;
      back = p.back;
      are = ap (λ ks. l ∷ ks) p.are;
      fronts = ap₂ (λ k ks. k ∷ ks) (cons_head x (line_bytes l) (xs ++ ys) (map line_bytes ls) e) p.fronts;
      backs = p.backs;
    }

front_short : (front back : List Line) → All IsShort (front ++ back) → All IsShort front
front_short front back s = All-same IsShort front (take (length front) (front ++ back)) (sym (take-append_seam front back)) (All-take IsShort (length front) (front ++ back) s)

-- what begins a certificate does so from its beginning on
pub front_stands : (xs ys : List (List ℕ)) → CanStand (xs ++ ys) → CanStand xs
front_stands xs ys h =
    let p = parted h.begun xs ys h.are.bytes in
    record {
      begun = p.front;
      are = record { bytes = p.fronts; short = front_short p.front p.back (subst (All IsShort) p.are h.are.short) };
      certificate = h.certificate;
      others = p.back ++ h.others;
      whole = h.whole ∙ ap (λ ls. ls ++ h.others) p.are ∙ append_assoc p.front p.back h.others;
    }

pub taken_stands : (texts : List (List ℕ)) (n : ℕ) → CanStand texts → CanStand (take n texts)
taken_stands texts n h = front_stands (take n texts) (drop n texts) (subst CanStand (sym (take-append-drop n texts)) h)

-- the lines of a certificate begin one
pub whole_stands : (texts : List (List ℕ)) (c : Certificate) → AreLines texts (lines c) → CanStand texts
whole_stands texts c h = record { begun = lines c; are = h; certificate = c; others = []; whole = sym (append-nil (lines c)) }

pub same_text : (texts : List (List ℕ)) (ls ms : List Line) → AreLines texts ls → AreLines texts ms → ls ≡ ms
same_text texts ls ms h k = same_lines ls ms h.short k.short (sym h.bytes ∙ k.bytes)

pub same_certificate : (c d : Certificate) → lines c ≡ lines d → c ≡ d
same_certificate c d e = sym (certificate_again c) ∙ ap certificate_of e ∙ certificate_again d

-- ---- the text up to a line

-- the lines so far stand, and these are missing behind them
pub record HasRead (texts : List (List ℕ)) (ls : List Line) (levels : List Level) (rest : List (List ℕ)) : Type 0 where
  pub are : texts ≡ map line_bytes ls ++ rest
  pub short : All IsShort ls
  pub follows : Follows ls levels

map_append : (ls ms : List Line) → map line_bytes (ls ++ ms) ≡ map line_bytes ls ++ map line_bytes ms
map_append [] ms = refl
map_append (l ∷ ls) ms = ap (λ ks. line_bytes l ∷ ks) (map_append ls ms)

map_length : (ls : List Line) → length (map line_bytes ls) ≡ length ls
map_length [] = refl
map_length (l ∷ ls) = ap suc (map_length ls)

begun_stands : (texts : List (List ℕ)) (ls : List Line) (s : List Level) → texts ≡ map line_bytes ls → All IsShort ls → Follows ls s → CanStand texts
begun_stands texts ls s e short h =
    let b = follows_begins ls s h in
    record { begun = ls; are = record { bytes = e; short = short }; certificate = b.certificate; others = b.others; whole = b.whole }

taken_front : (texts : List (List ℕ)) (ls : List Line) (rest : List (List ℕ)) → texts ≡ map line_bytes ls ++ rest → take (length ls) texts ≡ map line_bytes ls
taken_front texts ls rest e =
    ap (λ ts. take (length ls) ts) e ∙ ap (λ n. take n (map line_bytes ls ++ rest)) (sym (map_length ls)) ∙ take-append_seam (map line_bytes ls) rest

taken_more : (texts : List (List ℕ)) (ls : List Line) (text : List ℕ) (rest : List (List ℕ)) → texts ≡ map line_bytes ls ++ text ∷ rest → take (length ls + 1) texts ≡ map line_bytes ls ++ text ∷ []
taken_more texts ls text rest e =
    let front = map line_bytes ls ++ text ∷ [] in
    let all : texts ≡ front ++ rest = e ∙ sym (append_assoc (map line_bytes ls) (text ∷ []) rest) in
    let count : length ls + 1 ≡ length front = omega (arith, length-append (map line_bytes ls) (text ∷ []), map_length ls) in
    ap₂ (λ n ts. take n ts) count all ∙ take-append_seam front rest

back_short : (front back : List Line) → All IsShort (front ++ back) → All IsShort back
back_short front back s = All-same IsShort back (drop (length front) (front ++ back)) (sym (drop-append_seam front back)) (All-drop IsShort (length front) (front ++ back) s)

falls_at : (ls : List Line) (s : List Level) (text : List ℕ) (front back : List Line) → Follows ls s → CannotFollow s text → ls ≡ front → text ∷ [] ≡ map line_bytes back → All IsShort back
    → (c : Certificate) (others : List Line) → lines c ≡ (front ++ back) ++ others → ⊥
falls_at ls s text front [] h cannot f b short c others e = absurd (cc)
falls_at ls s text front (l ∷ back) h cannot f b short c others e =
    let line : IsLine text l = record { are = cons_head text (line_bytes l) [] (map line_bytes back) b; short = All-head IsShort l back short } in
    follows_none ls s l h (cannot l line) c (back ++ others)
    (e ∙ append_assoc front (l ∷ back) others ∙ ap (λ ks. ks ++ (l ∷ (back ++ others))) (sym f))

-- with a line that can't follow, the lines begin no certificate
falls : (ls : List Line) (s : List Level) (text : List ℕ) → All IsShort ls → Follows ls s → CannotFollow s text → CanStand (map line_bytes ls ++ text ∷ []) → ⊥
falls ls s text short h cannot stands =
    let p = parted stands.begun (map line_bytes ls) (text ∷ []) stands.are.bytes in
    let shorts : All IsShort (p.front ++ p.back) = subst (All IsShort) p.are stands.are.short in
    let fronts : ls ≡ p.front = same_lines ls p.front short (front_short p.front p.back shorts) p.fronts in
    falls_at ls s text p.front p.back h cannot fronts p.backs (back_short p.front p.back shorts) stands.certificate stands.others (stands.whole ∙ ap (λ ks. ks ++ stands.others) p.are)

pub reads_nothing : (texts : List (List ℕ)) → HasRead texts [] (level.Certificates 0 ∷ []) texts
reads_nothing texts = record { are = refl; short = All-nil IsShort; follows = follows_start }

pub reads_line : (texts : List (List ℕ)) (ls : List Line) (s t : List Level) (text : List ℕ) (rest : List (List ℕ)) (l : Line) → HasRead texts ls s (text ∷ rest) → IsLine text l → levels_behind s l ≡ Some t
    → HasRead texts (ls ++ l ∷ []) t rest
reads_line texts ls s t text rest l h line e = record {
  are = h.are ∙ ap (λ b. map line_bytes ls ++ b ∷ rest) line.are ∙ sym (append_assoc (map line_bytes ls) (line_bytes l ∷ []) rest) ∙ ap (λ ts. ts ++ rest) (sym (map_append ls (l ∷ [])));
  short = All-push IsShort ls l h.short line.short;
  follows = follows_line ls s t l h.follows e;
}

pub reads_wrong : (texts : List (List ℕ)) (ls : List Line) (s : List Level) (text : List ℕ) (rest : List (List ℕ)) → HasRead texts ls s (text ∷ rest) → CannotFollow s text → IsWrongLine texts (length ls + 1)
reads_wrong texts ls s text rest h cannot = record {
  before = length ls;
  number = refl;
  there = omega (arith, ap length h.are, length-append (map line_bytes ls) (text ∷ rest), map_length ls);
  stand = begun_stands (take (length ls) texts) ls s (taken_front texts ls (text ∷ rest) h.are) h.short h.follows;
  wrong = λ stands. falls ls s text h.short h.follows cannot (subst CanStand (taken_more texts ls text rest h.are) stands);
}

read_all : (texts : List (List ℕ)) (ls : List Line) (s : List Level) → HasRead texts ls s [] → AreLines texts ls
read_all texts ls s h = record { bytes = h.are ∙ append-nil (map line_bytes ls); short = h.short }

pub reads_lacking : (texts : List (List ℕ)) (ls : List Line) (s : List Level) → HasRead texts ls s [] → (s ≡ [] → ⊥) → LacksLines texts (length ls + 1)
reads_lacking texts ls s h some =
    let all = read_all texts ls s h in
    record {
      number = omega (arith, ap length all.bytes, map_length ls);
      stand = begun_stands texts ls s all.bytes h.short h.follows;
      unfinished = λ c are. follows_lacks ls s h.follows some c (same_text texts (lines c) ls are all);
    }

-- nothing is missing, and the lines are a certificate's
pub record IsWhole (texts : List (List ℕ)) (ls : List Line) : Type 0 where
  pub are : AreLines texts ls
  pub certificate : Certificate
  pub whole : lines certificate ≡ ls

pub reads_whole : (texts : List (List ℕ)) (ls : List Line) (s : List Level) → HasRead texts ls s [] → s ≡ [] → IsWhole texts ls
reads_whole texts ls s h none = let c = follows_over ls s h.follows none in record { are = read_all texts ls s h; certificate = c.0; whole = c.1 }
