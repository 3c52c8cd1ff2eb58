use Rattle.image_promises.proofs.Composed.{are_sound}
use Rattle.image_promises.proofs.images.sound.Goals as goal

pub returns : goal.returns
returns c =
    are_sound
    (λ w n f b is. let moved = c.main_words.ensures w n f b is in c.tables-2.ensures w n f b is moved.entry moved.compartment)
    (λ w n f b is. record {
      header = c.header.ensures w n f b is;
      tables = c.tables.ensures w n f b is;
      page = c.page.ensures.passes w n f b is;
      regions = c.regions.ensures w n f b is;
      sites = c.sites.ensures w n f b is;
      lends = c.lends.ensures w n f b is;
      inits = c.inits.ensures w n f b is;
    })
