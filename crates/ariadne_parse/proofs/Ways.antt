-- Changes, the file that they are of, and the ways that they are.
use Rattle.std.proofs.Common.{◌≡◌, ◌≤◌, ◌∙◌, ℕ, List, [], ◌∷◌, ◌++◌, length, take, refl, ap, sym}
use Rattle.std.proofs.lemmas.List.{map-append, take_all}
use Rattle.std.proofs.lemmas.List.Folds.{fold-map, list_all-map}
use Rattle.std.specs.Prelude.{if◌then◌else◌, map, None, Some, Vec}
use Rattle.std.specs.List.{fold, list_all}
use Rattle.std.specs.Str.{bytes_eq}
use Rattle.std.specs.declared.alloc.Global.{Global}
use Rattle.ariadne_parse.specs.Proposed.{edit_of, filed, gone_on, one_file, way_of, ways_of, with_edit, Edit}
use Rattle.ariadne_parse.specs.declared.diagnostic.Change.{Change}
use Rattle.ariadne_parse.specs.declared.proposals.FileChange.{FileChange}

-- one more behind others
pushed : {A B : Type 0} (f : A → B) (xs all : List A) (x : A) → all ≡ xs ++ x ∷ [] → map f all ≡ map f xs ++ f x ∷ []
pushed f xs all x more = ap (map f) more ∙ map-append f xs (x ∷ [])

-- the last of ways does
gone_last : (change : Edit) (ways : List (List Edit)) (way : List Edit)
    → gone_on change (ways ++ way ∷ []) ≡ ways ++ (way ++ change ∷ []) ∷ []
gone_last change [] way = refl
gone_last change (a ∷ []) way = refl
gone_last change (a ∷ b ∷ ways) way = ap (λ l. a ∷ l) (gone_last change (b ∷ ways) way)

pub gone : (change : Change) (old front new : List (Vec Change Global)) (last now : Vec Change Global)
    → old ≡ front ++ last ∷ [] → new ≡ front ++ now ∷ [] → now.items ≡ last.items ++ change ∷ []
    → map way_of new ≡ gone_on (edit_of change) (map way_of old)
gone change old front new last now was is more =
    pushed way_of front new now is
    ∙ ap (λ way. map way_of front ++ way ∷ []) (pushed edit_of last.items now.items change more)
    ∙ sym (gone_last (edit_of change) (map way_of front) (way_of last))
    ∙ ap (gone_on (edit_of change)) (sym (pushed way_of front old last was))

-- the ways that changes are
abbrev pub ways_so_far : List FileChange → List (List Edit)
ways_so_far changes = fold (λ ways change. with_edit ways (filed change).1) [] changes

-- all are passed
pub ways_done : (changes : List FileChange) (i : ℕ) (ways : List (Vec Change Global)) → length changes ≤ i
    → map way_of ways ≡ ways_so_far (take i changes) → map way_of ways ≡ ways_of (map filed changes)
ways_done changes i ways end is =
    is ∙ ap ways_so_far (take_all i changes end)
    ∙ sym (fold-map (λ ways change. with_edit ways change.1) filed [] changes)

without_files : (changes : List FileChange) → map (λ change. (filed change).1) changes ≡ map (λ change. change.1) (map filed changes)
without_files [] = refl
without_files (change ∷ changes) = ap (λ way. (filed change).1 ∷ way) (without_files changes)

pub way_done : (changes : List FileChange) (i : ℕ) (way : List Change) → length changes ≤ i
    → map edit_of way ≡ map (λ change. (filed change).1) (take i changes)
    → map edit_of way ≡ map (λ change. change.1) (map filed changes)
way_done changes i way end is =
    is ∙ ap (map (λ change. (filed change).1)) (take_all i changes end) ∙ without_files changes

-- the file of changes that are all of that of the first
pub one_file_is : (changes others : List FileChange) (first : FileChange) → changes ≡ first ∷ others
    → one_file (map filed changes)
    ≡ (if list_all (λ other. bytes_eq other.file.now first.file.now) others then Some first.file.now else None)
one_file_is changes others first is =
    ap (λ all. one_file (map filed all)) is
    ∙ ap (λ b. if b then Some first.file.now else None)
    (list_all-map (λ other. bytes_eq other.0 first.file.now) filed others)
