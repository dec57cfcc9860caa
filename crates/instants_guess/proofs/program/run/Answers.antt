use Rattle.std.proofs.Common.{◌∙◌}
use Rattle.instants_guess.proofs.Sampled.{read_into}
use Rattle.instants_guess.proofs.program.run.Goals as goal

pub returns-in-Ok-write_flushed : goal.returns-in-Ok-write_flushed
returns-in-Ok-write_flushed g c =
    let sample = c.in-Ok.ensures in
    record {
      read = read_into _ _ c.read_sample.new.buffer c.in-Ok.len sample.read sample.within (c.read_sample.auto.buffer ∙ c.requires.buffer) sample.whole;
      text = c.as_bytes.result.now;
      written = c.in-Ok-write_flushed.ensures.written;
      flushed = c.in-Ok-write_flushed.ensures.flushed;
      reader_works = sample.ok;
      writer_works = c.in-Ok-write_flushed.ensures.ok;
    }

pub returns-in-Err : goal.returns-in-Err
returns-in-Err g c =
    let sample = c.in-Ok.ensures in
    record {
      read = read_into _ _ c.read_sample.new.buffer c.in-Ok.len sample.read sample.within (c.read_sample.auto.buffer ∙ c.requires.buffer) sample.whole;
      text = c.as_bytes.result.now;
      prefix = c.in-Err.ensures.prefix;
      reader_works = sample.ok;
      writer_failed = c.in-Err.ensures.err;
    }
