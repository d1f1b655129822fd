-- Each number of a value fits its type.
use Rattle.wire_l4.proofs.segment.header_of.Goals as goal

pub returns-clause-fits : goal.returns-clause-fits
returns-clause-fits c = λ octets bound. record {
  from = c.front_of.ensures.fits.0;
  to = c.front_of.ensures.fits.1;
  place = c.front_of.ensures.fits.2;
  next = c.front_of.ensures.fits.3;
  marks = c.front_of.ensures.fits.4;
  room = c.front_of.ensures.fits.5;
  largest = c.put_options-len.ensures.fits.0;
  scale = c.put_options-len.ensures.fits.1;
  octets = octets;
  bound = bound;
}
