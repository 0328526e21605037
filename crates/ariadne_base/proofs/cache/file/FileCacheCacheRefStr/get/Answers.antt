use Rattle.ariadne_base.proofs.Paths.{held-by_path, held-by_text}
use Rattle.ariadne_base.proofs.cache.file.FileCacheCacheRefStr.get.Goals as goal

-- a lent text finds what its bytes find
pub returns : goal.returns
returns g c =
    let sources = c.self.inside.sources.entries in
    rw (← c.self.view_is) rw (held-by_text sources c.args.id.now) rw (held-by_path sources c.args.id.now.now) c.get.ensures.value
