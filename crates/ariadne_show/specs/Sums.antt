-- The sum that ends what is shown: how many errors, warnings and notes there were.
use Rattle.std.specs.Prelude.{ℕ, ◌+◌, ◌-◌, ◌^◌, ◌==◌, min, Bool, ◌&&◌, not, if◌then◌else◌}
use Rattle.std.specs.Prelude.{List, [], ◌∷◌, ◌++◌, length, codes, decimal}
use Rattle.ariadne_parse.specs.declared.diagnostic.Diagnostic.{Diagnostic}
use Rattle.ariadne_parse.specs.declared.diagnostic.Severity.{Severity}
use Rattle.ariadne_parse.specs.declared.diagnostic.Severity.TheVariants.{Error, Warning, Note}
use Rattle.ariadne_show.specs.declared.sum.Sum.{Sum}
use Rattle.ariadne_show.specs.declared.options.FailOn.{FailOn}
use Rattle.ariadne_show.specs.declared.options.FailOn.TheVariants as fail_on
use Rattle.ariadne_show.specs.declared.fault.Status.{Status}
use Rattle.ariadne_show.specs.declared.fault.Status.TheVariants.{Shown, WithErrors}

-- nothing was told
abbrev pub no_sum : Sum
no_sum = record { errors = 0; warnings = 0; notes = 0 }

-- one more, up to the greatest number of the machine
abbrev pub one_more : ℕ → ℕ
one_more n = min (n + 1) (2 ^ 64 - 1)

-- one of a severity more
abbrev pub counted_as : Severity → Sum → Sum
counted_as Error sum = record sum { errors = one_more sum.errors }
counted_as Warning sum = record sum { warnings = one_more sum.warnings }
counted_as Note sum = record sum { notes = one_more sum.notes }

-- a diagnostic more, unless it sums up others
abbrev pub counted : Diagnostic → Sum → Sum
counted parsed sum = if parsed.is_sum then sum else counted_as parsed.severity sum

-- how many diagnostics the status tells of, up to twice the greatest number of the machine
abbrev pub failing : FailOn → Sum → ℕ
failing fail_on.Error sum = sum.errors
failing fail_on.Warning sum = sum.errors + sum.warnings
failing fail_on.Never sum = 0

-- the status after all was shown: whether there were any
abbrev pub status_after : FailOn → Sum → Status
status_after fail_on sum = if failing fail_on sum == 0 then Shown else WithErrors

-- a text with a number of things behind it, if there are any
unfoldable pub with_count : List ℕ → ℕ → List ℕ → List ℕ
with_count text number name =
    if number == 0 then text else
    text ++ (if length text == 0 then [] else codes ", ") ++ decimal number ++ codes " " ++ name
    ++ (if number == 1 then [] else codes "s")

-- what the line says
abbrev pub sum_words : Sum → List ℕ
sum_words sum =
    with_count (with_count (with_count [] sum.errors (codes "error")) sum.warnings (codes "warning"))
    sum.notes (codes "note")

-- the line, if there is something to say
unfoldable pub sum_text : Sum → List ℕ
sum_text sum = if length (sum_words sum) == 0 then [] else sum_words sum ++ 10 ∷ []

-- what ends an open line in front of a text, if there is one
abbrev pub line_end : Bool → List ℕ → List ℕ
line_end is_open text = if is_open && not (length text == 0) then 10 ∷ [] else []
