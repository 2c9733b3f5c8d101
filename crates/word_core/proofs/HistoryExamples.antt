-- Histories that were worked out by hand.
use Rattle.std.proofs.Common.{◌≡◌, ℕ, None, Some, List, [], ◌∷◌, ◌++◌, refl, lit<, arith}
use Rattle.word_core.specs.Packed.{word}
use Rattle.word_core.specs.History.{memory_of, tickets_of, IsLegal}
use Rattle.word_core.specs.declared.history.Shared.{Shared}
use Rattle.word_core.specs.declared.history.SharedAct.{SharedAct}
use Rattle.word_core.specs.declared.history.SharedAct.TheVariants.{Load, Won, Lost, Read, Write, Clear}

abbrev by : ℕ → SharedAct → Shared
by p act = record { process = p; act = act }

-- three processes: after the stamps 0 1 2 1 process 0 finds a word; six stamps later it is the same
-- word again, and the exchange of process 0 wins
abbrev before : List Shared
before = by 0 (Won 0 281474976710656) ∷ by 1 (Won 281474976710656 844424930132224) ∷ by 2 (Won 844424930132224 1970324837171456) ∷ by 1 (Won 1970324837171456 1970324837172224) ∷ by 0 (Load 1970324837172224) ∷ []

abbrev meanwhile : List Shared
meanwhile = by 2 (Won 1970324837172224 1970324837303296) ∷ by 1 (Won 1970324837303296 1970324837303040) ∷ by 2 (Won 1970324837303040 1970324837237504) ∷ by 1 (Won 1970324837237504 1970324837238016) ∷ by 2 (Won 1970324837238016 1970324837172480) ∷ by 1 (Won 1970324837172480 1970324837172224) ∷ []

found : word (memory_of 3 1 before).labels ≡ 1970324837172224
found = refl

found_tickets : tickets_of 3 before ≡ 1 ∷ 4 ∷ 3 ∷ []
found_tickets = refl

came_back : word (memory_of 3 1 (before ++ meanwhile)).labels ≡ 1970324837172224
came_back = refl

went_on : tickets_of 3 (before ++ meanwhile) ≡ 1 ∷ 10 ∷ 9 ∷ []
went_on = refl

-- then another process, which still looks for that word, does not exchange it, and the registers are used
abbrev last : List Shared
last = by 0 (Won 1970324837172224 1970324837172230) ∷ by 1 (Lost 1970324837172224 1970324837172230) ∷ by 0 (Write 0 5) ∷ by 1 (Read 0 0 5) ∷ []

in_the_end : memory_of 3 1 (before ++ meanwhile ++ last) ≡ record { labels = Some (2 ∷ 0 ∷ []) ∷ Some (1 ∷ 1 ∷ []) ∷ Some (1 ∷ 0 ∷ []) ∷ []; rows = (5 ∷ 0 ∷ 0 ∷ []) ∷ [] }
in_the_end = refl

last_word : word (memory_of 3 1 (before ++ meanwhile ++ last)).labels ≡ 1970324837172230
last_word = refl

last_tickets : tickets_of 3 (before ++ meanwhile ++ last) ≡ 11 ∷ 10 ∷ 9 ∷ []
last_tickets = refl

is_legal : IsLegal 3 1 (before ++ meanwhile ++ last)
is_legal = ((lit< tt, (refl, refl)), ((lit< tt, (refl, refl)), ((lit< tt, (refl, refl)), ((lit< tt, (refl, refl)), ((lit< tt, refl), ((lit< tt, (refl, refl)), ((lit< tt, (refl, refl)), ((lit< tt, (refl, refl)), ((lit< tt, (refl, refl)), ((lit< tt, (refl, refl)), ((lit< tt, (refl, refl)), ((lit< tt, (refl, refl)), ((lit< tt, (refl, λ same. omega (arith, same))), ((lit< tt, (lit< tt, lit< tt)), ((lit< tt, (lit< tt, lit< tt, refl)), tt)))))))))))))))

-- an exchange of a word that does not stand there cannot come next
no_other : IsLegal 3 1 (by 0 (Won 3 1027) ∷ []) → ◌≡◌ {A = ℕ} 3 0
no_other legal = legal.0.1.0

-- two processes: the first gives its ticket up, and the second, which looks for the word with it, loses
abbrev given_up : List Shared
given_up = by 0 (Won 0 281474976710656) ∷ by 1 (Load 281474976710656) ∷ by 0 (Clear 281474976710656) ∷ by 1 (Lost 281474976710656 0) ∷ by 1 (Won 0 562949953421312) ∷ by 0 (Clear 562949953421312) ∷ []

given_up_labels : (memory_of 2 0 given_up).labels ≡ None ∷ Some (0 ∷ []) ∷ []
given_up_labels = refl

given_up_tickets : tickets_of 2 given_up ≡ 0 ∷ 1 ∷ []
given_up_tickets = refl

given_up_legal : IsLegal 2 0 given_up
given_up_legal = ((lit< tt, (refl, refl)), ((lit< tt, refl), ((lit< tt, refl), ((lit< tt, (refl, λ same. omega (arith, same))), ((lit< tt, (refl, refl)), ((lit< tt, refl), tt))))))

-- a clear tells the word before it, and not the one that it leaves
no_after : IsLegal 2 0 (by 0 (Won 0 281474976710656) ∷ by 0 (Clear 0) ∷ []) → ◌≡◌ {A = ℕ} 0 281474976710656
no_after legal = legal.1.0.1
