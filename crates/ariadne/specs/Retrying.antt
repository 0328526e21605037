-- What a clause reads of a writer that tries interrupted writes again.
use Rattle.ariadne.specs.declared.retry.RetryInterrupted.{RetryInterrupted}

-- the writer that is tried again
abbrev pub writer_of : {W : Type 0} → RetryInterrupted W → W
writer_of retrying = retrying.writer
