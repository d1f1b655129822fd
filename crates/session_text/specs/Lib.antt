-- session documents: which line may stand behind which, and what all of them say
pub mod Documents
-- what the lines so far say, and what they say by default
pub mod Drafts
-- what the line `end` asks of a document
pub mod Ending
-- the pieces of an image: octets as they are, and a rule that fills
pub mod Image
-- A reader by its fields
pub mod Inside
-- the lines that tell of the server
pub mod Lan
-- A line by itself: its kind, and what its words tell
pub mod Line
-- the rows of the server's names: addresses and aliases
pub mod Names
-- what a line puts into what was said
pub mod Putting
-- A reader of documents, as others see it
pub mod Reading
-- the schedule: which frames are dropped, come twice or late, and which sends fail
pub mod Schedule
-- the lines that documents of version 2 have besides
pub mod Second
-- the lines that tell what a site serves
pub mod Served
-- what a whole document says: what wasn't said has its default
pub mod Sessions
-- A site of the server: where it stands, and what it serves
pub mod Sites
-- the lines that tell of the station
pub mod Station
-- words within a line, parted by single spaces, and their ranges
pub mod Words
