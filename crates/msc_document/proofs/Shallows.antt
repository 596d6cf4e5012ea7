-- Parts in which nothing opens a level.
use Rattle.std.proofs.Common.{ℕ, List, [], ◌∷◌, Some, None, codes}
use Rattle.msc_tree.specs.declared.chart.Cover.TheVariants.{All, Listed}
use Rattle.msc_tree.specs.declared.reference.JoinEnd.TheVariants.{Env, Reference}
use Rattle.token_grammar.specs.Classes.{string}
use Rattle.token_grammar.specs.Languages.{Set, just, names}
use Rattle.token_grammar.specs.Grammars.{Grammar, word}
use Rattle.token_grammar.specs.Parts.{ending, dropped, all_of, separated, kept}
use Rattle.token_grammar.proofs.Shallow.{Shallow, bytes_shallow, read_shallow, seq_shallow, chain_shallow, or_shallow, optional_shallow, behind_shallow}
use Rattle.msc_events.specs.Multis.{sharers, cover_of, shared_in, join_end, joins}
use Rattle.msc_events.specs.Declarations.{heading}
use Rattle.msc_document.specs.Inlines.{closing}
use Rattle.msc_events.specs.declared.orientation.Orientation.{Orientation}
use Rattle.msc_events.specs.declared.orientation.Orientation.TheVariants as written

word_shallow : (s : Set) → Shallow (word s)
word_shallow s = record { none = λ p h. h }

pub ending_shallow : Shallow ending
ending_shallow = read_shallow (λ p. p.0) (optional_shallow dropped (behind_shallow (just (codes "comment")) (bytes_shallow (string ∷ []))) (bytes_shallow (just (codes ";"))))

pub closing_shallow : Shallow closing
closing_shallow = behind_shallow (just (codes "end")) ending_shallow

separated_shallow : {A : Type 0} {R : Grammar A} (text : List ℕ) → Shallow R → Shallow (separated text R)
separated_shallow text r = read_shallow all_of (chain_shallow r (behind_shallow (just text) r))

sharers_shallow : Shallow sharers
sharers_shallow = or_shallow (read_shallow (λ t. All) (word_shallow (just (codes "all")))) (read_shallow Listed (separated_shallow (codes ",") (bytes_shallow names)))

pub shared_in_shallow : (orientation : Orientation) → Shallow (shared_in orientation ending)
shared_in_shallow written.Column = or_shallow (read_shallow (λ p. (Some p.0, p.1)) (behind_shallow (just (codes "shared")) (optional_shallow cover_of sharers_shallow ending_shallow))) (read_shallow (λ a. (None, a)) ending_shallow)
shared_in_shallow written.Covered = read_shallow (λ a. (None, a)) ending_shallow

join_end_shallow : Shallow join_end
join_end_shallow = or_shallow (read_shallow Env (behind_shallow (just (codes "env")) (behind_shallow (just (codes "via")) (bytes_shallow names))))
    (read_shallow (λ p. Reference p.0 p.1) (behind_shallow (just (codes "reference")) (seq_shallow (bytes_shallow names) (behind_shallow (just (codes "via")) (bytes_shallow names)))))

pub joins_shallow : Shallow joins
joins_shallow = behind_shallow (just (codes "via")) (separated_shallow (codes ",") (read_shallow (λ p. record { gate = p.0.0; to = p.1; place = p.0.1 })
    (seq_shallow (read_shallow (λ t. (t.bytes, t.place)) (word_shallow names)) (behind_shallow (just (codes "to")) join_end_shallow))))

-- ---- the heading of a document

pub heading_shallow : Shallow heading
heading_shallow = behind_shallow (just (codes "mscdocument")) (read_shallow (λ p. record { name = p.0; related = p.1.0 })
    (seq_shallow (bytes_shallow names) (optional_shallow kept (behind_shallow (just (codes "related")) (behind_shallow (just (codes "to")) (bytes_shallow names))) ending_shallow)))
