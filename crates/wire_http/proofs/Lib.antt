-- a stream is bad at one part
pub mod BadLaws
-- what is kept of a body tells what the octets read are by the grammar
pub mod BodyLaws
-- what isn't bad can become whole
pub mod ChunkedEnds
-- what has been read of a body in chunks, by the stage behind it
pub mod ChunkedSeen
-- whole chunks, a last line and a trailer are read to their end
pub mod ChunkedWalks
-- steps of a loop over a piece
pub mod Feeds
-- a text that grew by several pieces
pub mod Joining
-- the field lines that have begun are those that no continuation can take back, and no more are needed
pub mod LineCount
-- what has been read of a chunk line: the front of one, which can end within the limits
pub mod LineSeen
-- a whole chunk line is read to its end
pub mod LineWalks
-- what a piece brings, told of all octets read
pub mod PieceLaws
-- a response is one, and stays the same when the stream grows
pub mod ResponseLaws
-- walks over octets of a body
pub mod RunLaws
-- parts between commas, and digits
pub mod Texts
-- what has been read of a trailer: the front of one, which can end within the limits
pub mod TrailerSeen
-- a whole trailer is read to its end
pub mod TrailerWalks
-- what an answer to a text tells of it
pub mod UriLaw
-- steps of a walk over the fields
pub mod Walking
