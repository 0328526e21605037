-- Words that ask for pages, and words that don't.
use Rattle.std.proofs.Common.{◌≡◌, ◌≢◌, ◌<◌, ◌≤◌, String, Global, arith, refl}
use Rattle.std.specs.Prelude.{ℕ, Bool, true, false, List, [], ◌∷◌, length, map, codes, slice_index_or, string_bytes}
use Rattle.std.specs.Prelude.{Option, Some, None, is_some, option_map}
use Rattle.std.specs.Str.{bytes_eq}
use Rattle.std.specs.Cmp.Lexicographic.{bytes_decides}
use Rattle.ariadne_commands.specs.HelpPages.{page_asked, page_named}
use Rattle.ariadne_commands.specs.Words.{asking_after, asking_of, colorless, front_of}
use Rattle.ariadne_commands.specs.declared.pages.HelpPage.{HelpPage}
use Rattle.ariadne_commands.proofs.Fronts.{differ}

-- the two words, each alone
help_asks_nothing : asking_of (codes "--help" ∷ []) ≡ None
unfolding asking_after front_of
help_asks_nothing = refl

version_asks_nothing : asking_of (codes "--version" ∷ []) ≡ None
unfolding asking_after front_of
version_asks_nothing = refl

-- a word is one of them
by_tests : (word : List ℕ) (page : HelpPage) (is_help is_version : Bool)
    → bytes_eq word (codes "--help") ≡ is_help → bytes_eq word (codes "--version") ≡ is_version
    → page_named word ≡ Some page → asking_of (word ∷ []) ≡ None
by_tests word page true is_version help version named = rw ((bytes_decides word (codes "--help")).0 help) help_asks_nothing
by_tests word page false true help version named = rw ((bytes_decides word (codes "--version")).0 version) version_asks_nothing
by_tests word page false false help version named = let none : None ≡ Some page = rw (help, version) at named in cc

-- words that ask for a page
pub page_asks_nothing : (words : List (List ℕ)) (page : HelpPage) → page_asked words ≡ Some page → asking_of words ≡ None
page_asks_nothing [] page asked = cc
page_asks_nothing (word ∷ []) page asked = by_tests word page _ _ refl refl asked
page_asks_nothing (word ∷ other ∷ words) page asked = cc

-- so they ask for the same without colours
pub page_stays : (words : List (List ℕ)) (asks : Option HelpPage) → page_asked words ≡ asks → is_some asks ≡ true
    → asking_of words ≡ option_map colorless (asking_of words)
page_stays words (Some page) asked some = rw (page_asks_nothing words page asked) refl
page_stays words None asked some = cc

-- one word alone, which names no page
pub no_page : (words : List (String Global)) (word : String Global) → 1 ≤ length words → length words < 2
    → word ≡ slice_index_or words 0 word → string_bytes word ≢ codes "--help" → string_bytes word ≢ codes "--version"
    → None ≡ page_asked (map string_bytes words)
no_page [] word some few is help version = let none : ⊥ = omega (arith, some) in elim none [ ]
no_page (only ∷ []) word some few is help version = rw (← is, differ _ _ help, differ _ _ version) refl
no_page (a ∷ b ∷ words) word some few is help version = let none : ⊥ = omega (arith, few) in elim none [ ]
