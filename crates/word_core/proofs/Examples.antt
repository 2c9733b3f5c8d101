-- Stamps and clears that were worked out by hand.
-- The first part is computed: two processes in turn, one that gives its label up, three processes, one alone, and labels
-- that are read back from their word. The second part has words that stand for no labels, by the bounds of what a word may
-- have: a byte is too high (`no_digit`), there is a byte or a bit too many (`no_third_byte`, `no_third_bit`), or an absent
-- process has a byte that isn't 0 (`no_absent`).
-- Read `came_back` first, then `left_labels` and `no_digit`.
use Rattle.std.proofs.Common.{◌≡◌, ◌<◌, None, Some, List, [], ◌∷◌, refl, lit<, lit≤, arith}
use Rattle.ticket_core.specs.Tickets.{start_tickets, ticket_ranks, tickets_moved}
use Rattle.ticket_core.specs.declared.moves.Move.{Move}
use Rattle.ticket_core.specs.declared.moves.Move.TheVariants.{Stamp, Clear}
use Rattle.word_core.specs.Stamps.{Labels, start_labels, labels_moved}
use Rattle.word_core.specs.Packed.{IsWordOf, word}
use Rattle.word_core.specs.Order.{label_ranks}
use Rattle.word_core.specs.prover.Packing.{labels_in}
use Rattle.word_core.proofs.Views.{word_fits, word_counts}

-- two processes in turn: the word comes back while the tickets grow
abbrev twice : List Move
twice = Stamp 0 ∷ Stamp 1 ∷ []

abbrev in_turn : List Move
in_turn = Stamp 0 ∷ Stamp 1 ∷ Stamp 0 ∷ Stamp 1 ∷ Stamp 0 ∷ Stamp 1 ∷ Stamp 0 ∷ Stamp 1 ∷ []

once_there : word (labels_moved (start_labels 2) twice) ≡ 844424930132224
once_there = refl

came_back : word (labels_moved (start_labels 2) in_turn) ≡ 844424930132224
came_back = refl

went_on : tickets_moved (start_tickets 2) in_turn ≡ 7 ∷ 8 ∷ []
went_on = refl

-- nobody is present: all ranks are 0, as those of tickets that are 0
nobody : label_ranks (start_labels 2) ≡ 0 ∷ 0 ∷ []
nobody = refl

-- who gives its label up is below each that is present, and the next one takes 0 beside nobody
abbrev given_up : List Move
given_up = Stamp 0 ∷ Clear 0 ∷ Stamp 1 ∷ []

given_up_word : word (labels_moved (start_labels 2) given_up) ≡ 562949953421312
given_up_word = refl

given_up_labels : labels_moved (start_labels 2) given_up ≡ None ∷ Some (0 ∷ []) ∷ []
given_up_labels = refl

given_up_ranks : label_ranks (labels_moved (start_labels 2) given_up) ≡ 0 ∷ 1 ∷ []
given_up_ranks = refl

given_up_tickets : tickets_moved (start_tickets 2) given_up ≡ 0 ∷ 1 ∷ []
given_up_tickets = refl

-- three processes, and one of them gives up what it took
abbrev three : List Move
three = Stamp 0 ∷ Stamp 1 ∷ Stamp 2 ∷ []

three_labels : labels_moved (start_labels 3) three ≡ Some (0 ∷ 0 ∷ []) ∷ Some (0 ∷ 1 ∷ []) ∷ Some (1 ∷ 0 ∷ []) ∷ []
three_labels = refl

three_word : word (labels_moved (start_labels 3) three) ≡ 1970324837171456
three_word = refl

abbrev left : List Move
left = Stamp 0 ∷ Stamp 1 ∷ Stamp 2 ∷ Clear 1 ∷ Stamp 0 ∷ []

left_labels : labels_moved (start_labels 3) left ≡ Some (1 ∷ 1 ∷ []) ∷ None ∷ Some (1 ∷ 0 ∷ []) ∷ []
left_labels = refl

left_word : word (labels_moved (start_labels 3) left) ≡ 1407374883749892
left_word = refl

left_ranks : label_ranks (labels_moved (start_labels 3) left) ≡ 2 ∷ 0 ∷ 1 ∷ []
left_ranks = refl

left_ticket_ranks : ticket_ranks (tickets_moved (start_tickets 3) left) ≡ 2 ∷ 0 ∷ 1 ∷ []
left_ticket_ranks = refl

-- three processes, twice round
abbrev round : List Move
round = Stamp 0 ∷ Stamp 1 ∷ Stamp 2 ∷ Stamp 0 ∷ Stamp 1 ∷ Stamp 2 ∷ []

round_labels : labels_moved (start_labels 3) round ≡ Some (1 ∷ 1 ∷ []) ∷ Some (2 ∷ 0 ∷ []) ∷ Some (2 ∷ 1 ∷ []) ∷ []
round_labels = refl

-- one process by itself has the label of no digits, or none
alone : word (labels_moved (start_labels 1) (Stamp 0 ∷ [])) ≡ 281474976710656
alone = refl

alone_again : word (labels_moved (start_labels 1) (Stamp 0 ∷ Clear 0 ∷ Stamp 0 ∷ [])) ≡ 281474976710656
alone_again = refl

six : word (labels_moved (start_labels 6) three) ≡ 1970324837171456
six = refl

read_back : labels_in 3 1407374883749892 ≡ Some (1 ∷ 1 ∷ []) ∷ None ∷ Some (1 ∷ 0 ∷ []) ∷ []
read_back = refl

-- a byte of 3 is no label of one digit, one of 1 no label of none
no_digit : (labels : Labels) → ¬ IsWordOf 2 281474976710659 labels
no_digit labels is = let three : 3 < 3 = word_counts 2 281474976710659 labels (lit≤ tt) is 0 (lit< tt) in omega (arith, three)

no_digits : (labels : Labels) → ¬ IsWordOf 1 281474976710657 labels
no_digits labels is = let one : 1 < 1 = word_counts 1 281474976710657 labels (lit≤ tt) is 0 (lit< tt) in omega (arith, one)

-- an absent process has byte 0
no_absent : (labels : Labels) → ¬ IsWordOf 2 513 labels
no_absent labels is = let none : 1 ≡ 0 = word_counts 2 513 labels (lit≤ tt) is 0 (lit< tt) in omega (arith, none)

-- two processes have two bytes and two presence bits
no_third_byte : (labels : Labels) → ¬ IsWordOf 2 65536 labels
no_third_byte labels is = let below : 65536 < 65536 = (word_fits 2 65536 labels (lit≤ tt) is).bytes in omega (arith, below)

no_third_bit : (labels : Labels) → ¬ IsWordOf 2 1125899906842624 labels
no_third_bit labels is = let below : 4 < 4 = (word_fits 2 1125899906842624 labels (lit≤ tt) is).presences in omega (arith, below)
