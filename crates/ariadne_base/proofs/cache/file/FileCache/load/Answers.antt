use Rattle.std.proofs.Common.{refl}
use Rattle.std.specs.Str.{bytes_eq}
use Rattle.ariadne_base.specs.Files.{by_path}
use Rattle.ariadne_base.proofs.Lookups.{Fetched-refused}
use Rattle.ariadne_base.proofs.Paths.{IsSome-by_path, IsNone-by_path}
use Rattle.ariadne_base.proofs.cache.file.FileCache.load.Goals as goal

-- a path that is held changes nothing
pub returns-then-contains_key : goal.returns-then-contains_key
returns-then-contains_key g c = (
  rw (← c.self.view_is) (IsSome-by_path c.self.inside.sources.entries c.args.path.now c.if-contains_key.ensures),
  (λ q there. refl),
  (λ q apart. refl),
  (λ there q. refl),
)

-- a file that can't be had changes nothing
pub returns-in-Err : goal.returns-in-Err
returns-in-Err g c =
    Fetched-refused bytes_eq (by_path c.args.self.now) c.args.path.now c.in-Err.error
    (rw (← c.self.view_is) (IsNone-by_path c.self.inside.sources.entries c.args.path.now c.if-contains_key.ensures))

-- the path is not held
pub keep-requires : goal.keep-requires
keep-requires g c = rw (← c.self.view_is) (IsNone-by_path c.self.inside.sources.entries c.args.path.now c.if-contains_key.ensures)

-- neither is it where there was no memory for its text
pub returns-in-Err-keep : goal.returns-in-Err-keep
returns-in-Err-keep g c = (
  rw (← c.self.view_is) (IsNone-by_path c.self.inside.sources.entries c.args.path.now c.if-contains_key.ensures),
  c.in-Err-keep.ensures.err,
)
