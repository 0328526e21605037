-- What the program holds of the words that it has read, and what it is to do with them.
use Rattle.std.specs.Prelude.{◌≡◌, ⊤, List, map, Option, Some, None, Result, Ok, Err, Vec}
use Rattle.std.specs.Option.{option_copied}
use Rattle.std.specs.declared.alloc.Global.{Global}
use Rattle.ariadne_commands.specs.declared.asked.Request.{Request}
use Rattle.ariadne_commands.specs.declared.asked.RequestedLabel.{RequestedLabel}
use Rattle.ariadne_commands.specs.declared.asked.RequestedOptions.{RequestedOptions}
use Rattle.ariadne_commands.specs.declared.fault.Fault.{Fault}
use Rattle.ariadne_commands.specs.declared.fault.Fault.TheVariants.{Usage, Unread, NotUtf8, Writer}
use Rattle.ariadne_commands.specs.declared.fault.Fault.TheVariants.{Memory}
use Rattle.ariadne_commands.specs.Words.{Asking, AskingLabel, AskingOptions}

-- what is held of a label
abbrev pub label_asking : RequestedLabel → AskingLabel
label_asking label = record {
  start = label.place.start;
  end = label.place.end;
  text = label.text.now;
}

-- what is held of the options
abbrev pub options_asking : RequestedOptions → AskingOptions
options_asking options = record {
  ascii = options.is_ascii;
  plain = options.is_plain;
  compact = options.is_compact;
  bytes = options.is_bytes;
  path = option_copied options.path;
}

-- what is held of all
abbrev pub asking : Request → Asking
asking asked = record {
  options = options_asking asked.options;
  message = asked.message.now;
  labels = map label_asking asked.labels.items;
}

-- a fault of reading words: they ask for nothing, or there was no memory
abbrev pub IsFaultOfWords : {A : Type 0} → Option A → Fault → Type 0
IsFaultOfWords asks (Usage line) = asks ≡ None
IsFaultOfWords asks Unread = ⊥
IsFaultOfWords asks NotUtf8 = ⊥
IsFaultOfWords asks (Writer sent) = ⊥
IsFaultOfWords asks (Memory refused) = ⊤

-- the labels that are asked for are read
abbrev pub ReadsLabels : Option (List AskingLabel) → Result (Vec RequestedLabel Global) Fault → Type 0
ReadsLabels asks (Ok labels) = asks ≡ Some (map label_asking labels.items)
ReadsLabels asks (Err fault) = IsFaultOfWords asks fault

-- what is asked for is read
abbrev pub ReadsWords : Option Asking → Result Request Fault → Type 0
ReadsWords asks (Ok asked) = asks ≡ Some (asking asked)
ReadsWords asks (Err fault) = IsFaultOfWords asks fault
